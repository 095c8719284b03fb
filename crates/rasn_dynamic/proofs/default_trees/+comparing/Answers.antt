use Rattle.std.proofs.Common.{◌≡◌, ◌∙◌, refl, sym, ap, ap₂, suc, max, map, Some, false, length, arith, ◌<◌}
use Rattle.std.specs.Prelude.{not, option_map, slice_get}
use Rattle.std.proofs.lemmas.Grind.{common_steps}
use Rattle.rasn_types.specs.Values.{same}
use Rattle.rasn_schema.specs.Lists.{deepest}
use Rattle.rasn_schema.specs.Structures.{list_value, record_value}
use Rattle.rasn_schema.specs.Normal.{is_idle, normal}
use Rattle.rasn_traits.specs.Counted.{index_in, side_of}
use Rattle.rasn_dynamic.specs.declared.values.Value.TheVariants.{rolls-Alternative, rolls-Elements, rolls-Fields}
use Rattle.rasn_dynamic.specs.Defaults.{groups, same_slot, settled}
use Rattle.rasn_dynamic.specs.Types.{presence_of, record_schema, schema_at, tree_slot, tree_value}
use Rattle.rasn_dynamic.specs.Values.{levels_of, slot_of, value_of}
use Rattle.rasn_dynamic.proofs.ComparedParts
use Rattle.rasn_dynamic.proofs.Comparing.{chosen_told, list_told, no_choice_told, no_list_told, no_record_told, other_chosen, record_told, record_untold}
use Rattle.rasn_dynamic.proofs.DefaultTrees.{elements_stated}
use Rattle.rasn_dynamic.proofs.Trees.{alternative_levels, deepest_at, elements_levels, fields_levels}
use Rattle.rasn_dynamic.proofs.default_trees.+comparing.Goals as goal

pub comes_to-returns-in-Elements : goal.comes_to-returns-in-Elements
comes_to-returns-in-Elements t c = record {
  at = λ n le. c.list_comes_to.ensures.at n le ∙ ap (same (normal (schema_at c.args.kinds.now c.args.place n) (value_of c.args.value.now))) (elements_stated c.in-Elements.tolds c.deref.result.now c.args.told.now c.deref.ensures.value c.in-Elements.is);
}

pub list_comes_to-returns-in-Elements : goal.list_comes_to-returns-in-Elements
list_comes_to-returns-in-Elements t c =
    list_told c.args.kinds.now c.args.place c.args.value.now c.in-Elements.values c.args.tolds.now c.elements_come_to.result c.in-Elements.is (rw (c.element_place-of.ensures, c.deref.ensures.value) at c.elements_come_to.ensures)

pub list_comes_to-returns-in_default : goal.list_comes_to-returns-in_default
list_comes_to-returns-in_default t c = no_list_told c.args.kinds.now c.args.place c.args.value.now c.args.tolds.now c.in_default.not-Elements

pub list_comes_to-elements_come_to-requires : goal.list_comes_to-elements_come_to-requires
list_comes_to-elements_come_to-requires t c =
    let e = elements_levels c.args.value.now _ (c.in-Elements.is ∙ sym (rolls-Elements c.in-Elements.values)) ∙ ap (λ vs. suc (deepest levels_of vs)) (sym c.deref.ensures.value) in
    grind (arith, common_steps, e)

pub elements_come_to-comes_to-requires : goal.elements_come_to-comes_to-requires
elements_come_to-comes_to-requires t c =
    let l : c.loop-index.index < length c.args.values.now = omega arith in
    grind (arith, common_steps, deepest_at c.args.values.now _ _ l c.index-values-index.is)

pub elements_come_to-returns-then-values-tolds : goal.elements_come_to-returns-then-values-tolds
elements_come_to-returns-then-values-tolds t c = ComparedParts.elements_uneven c.args.kinds.now c.args.place c.args.values.now c.args.tolds.now (λ e. omega (arith, e))

pub elements_come_to-loop-index-init : goal.elements_come_to-loop-index-init
elements_come_to-loop-index-init t c = ComparedParts.elements_begun c.args.kinds.now c.args.place c.args.values.now c.args.tolds.now

pub elements_come_to-returns-then-not-comes_to : goal.elements_come_to-returns-then-not-comes_to
elements_come_to-returns-then-not-comes_to t c =
    let l : c.loop-index.index < length c.args.values.now = omega arith in
    ComparedParts.elements_failed c.args.kinds.now c.args.place c.args.values.now c.args.tolds.now c.loop-index.index c.loop-index.invariant _ _ c.comes_to.result l c.index-values-index.is c.loop-index-test.true c.index-tolds-index.is c.comes_to.ensures c.if-not-comes_to.true

pub elements_come_to-loop-index-preserved : goal.elements_come_to-loop-index-preserved
elements_come_to-loop-index-preserved t c =
    let l : c.loop-index.index < length c.args.values.now = omega arith in
    ComparedParts.elements_passed c.args.kinds.now c.args.place c.args.values.now c.args.tolds.now c.loop-index.index c.loop-index.invariant _ _ c.comes_to.result l c.index-values-index.is c.loop-index-test.true c.index-tolds-index.is c.comes_to.ensures c.if-not-comes_to.false

pub elements_come_to-returns : goal.elements_come_to-returns
elements_come_to-returns t c = ComparedParts.elements_ended c.args.kinds.now c.args.place c.args.values.now c.args.tolds.now c.loop-index.index c.loop-index.invariant (omega arith) c.loop-index-test.false

pub choice_comes_to-comes_to-requires : goal.choice_comes_to-comes_to-requires
choice_comes_to-comes_to-requires t c =
    let e = alternative_levels c.args.value.now _ _ (c.in-Alternative.is ∙ sym (rolls-Alternative c.in-Alternative.own c.in-Alternative.chosen)) ∙ ap (λ u. suc (levels_of u)) (sym c.deref.ensures) in
    grind (arith, common_steps, e)

pub choice_comes_to-returns-then-not-are_same_place : goal.choice_comes_to-returns-then-not-are_same_place
choice_comes_to-returns-then-not-are_same_place t c =
    other_chosen c.args.kinds.now c.args.place c.args.value.now c.in-Alternative.own c.args.at c.in-Alternative.chosen c.in-Alternative.is c.args.told.now c.are_same_place.result c.are_same_place.ensures c.if-not-are_same_place.true

pub choice_comes_to-returns-else-not-are_same_place : goal.choice_comes_to-returns-else-not-are_same_place
choice_comes_to-returns-else-not-are_same_place t c =
    chosen_told c.args.kinds.now c.args.place c.args.value.now c.in-Alternative.own c.args.at c.in-Alternative.chosen c.in-Alternative.is c.args.told.now c.are_same_place.result c.are_same_place.ensures c.comes_to.result c.if-not-are_same_place.false (rw (c.chosen_place-of.ensures, c.deref.ensures) at c.comes_to.ensures)

pub choice_comes_to-returns-in_default : goal.choice_comes_to-returns-in_default
choice_comes_to-returns-in_default t c = no_choice_told c.args.kinds.now c.args.place c.args.value.now (side_of c.args.at) (index_in c.args.at) (tree_value c.args.told.now) c.in_default.not-Alternative

pub record_comes_to-parts_come_to-root_told-requires : goal.record_comes_to-parts_come_to-root_told-requires
record_comes_to-parts_come_to-root_told-requires t c =
    let e = c.in-Fields.is ∙ sym (rolls-Fields c.in-Fields.own c.in-Fields.added) in
    let el = fields_levels c.args.value.now _ _ e ∙ ap₂ (λ vs ws. suc (max (deepest levels_of vs) (deepest levels_of ws))) (sym c.deref-root_values.ensures.value) (sym c.deref-added_values.ensures.value) in
    grind (arith, common_steps, el)

pub record_comes_to-parts_come_to-requires : goal.record_comes_to-parts_come_to-requires
record_comes_to-parts_come_to-requires t c =
    let e = c.in-Fields.is ∙ sym (rolls-Fields c.in-Fields.own c.in-Fields.added) in
    let el = fields_levels c.args.value.now _ _ e ∙ ap₂ (λ vs ws. suc (max (deepest levels_of vs) (deepest levels_of ws))) (sym c.deref-root_values.ensures.value) (sym c.deref-added_values.ensures.value) in
    grind (arith, common_steps, el)

pub record_comes_to-returns-then-not-root_told : goal.record_comes_to-returns-then-not-root_told
record_comes_to-returns-then-not-root_told t c =
    record_untold c.args.kinds.now c.args.place c.args.value.now c.in-Fields.own c.in-Fields.added c.in-Fields.is c.args.root.now c.args.additions.now c.parts_come_to-root_told.result c.if-not-root_told.true (rw (c.components_at-components.ensures, c.deref-root_values.ensures.value) at c.parts_come_to-root_told.ensures)

pub record_comes_to-returns-else-not-root_told : goal.record_comes_to-returns-else-not-root_told
record_comes_to-returns-else-not-root_told t c =
    record_told c.args.kinds.now c.args.place c.args.value.now c.in-Fields.own c.in-Fields.added c.in-Fields.is c.args.root.now c.args.additions.now c.parts_come_to-root_told.result c.parts_come_to.result c.if-not-root_told.false
    (rw (c.components_at-components.ensures, c.deref-root_values.ensures.value) at c.parts_come_to-root_told.ensures)
    (rw (c.components_at-behind.ensures, c.deref-added_values.ensures.value) at c.parts_come_to.ensures)

pub record_comes_to-returns-in_default : goal.record_comes_to-returns-in_default
record_comes_to-returns-in_default t c = no_record_told c.args.kinds.now c.args.place c.args.value.now (map tree_slot c.args.root.now) (map tree_slot c.args.additions.now) c.in_default.not-Fields

pub parts_come_to-part_comes_to-requires : goal.parts_come_to-part_comes_to-requires
parts_come_to-part_comes_to-requires t c =
    let l : c.loop-index.index < length c.args.values.now = omega arith in
    grind (arith, common_steps, deepest_at c.args.values.now _ _ l c.index-values-index.is)

pub parts_come_to-returns-then-values-tolds : goal.parts_come_to-returns-then-values-tolds
parts_come_to-returns-then-values-tolds t c = ComparedParts.parts_uneven c.args.kinds.now c.args.are_added c.args.components.now c.args.values.now c.args.tolds.now (λ e. omega (arith, e))

pub parts_come_to-loop-index-init : goal.parts_come_to-loop-index-init
parts_come_to-loop-index-init t c = ComparedParts.parts_begun c.args.kinds.now c.args.are_added c.args.components.now c.args.values.now c.args.tolds.now

pub parts_come_to-returns-then-not-part_comes_to : goal.parts_come_to-returns-then-not-part_comes_to
parts_come_to-returns-then-not-part_comes_to t c =
    let l : c.loop-index.index < length c.args.values.now = omega arith in
    ComparedParts.parts_failed c.args.kinds.now c.args.are_added c.args.components.now c.args.values.now c.args.tolds.now c.loop-index.index c.loop-index.invariant _ _ _ c.part_comes_to.result l c.index-values-index.is c.loop-index-test.true c.index-tolds-index.is c.component_at-component.ensures c.part_comes_to.ensures c.if-not-part_comes_to.true

pub parts_come_to-loop-index-preserved : goal.parts_come_to-loop-index-preserved
parts_come_to-loop-index-preserved t c =
    let l : c.loop-index.index < length c.args.values.now = omega arith in
    ComparedParts.parts_passed c.args.kinds.now c.args.are_added c.args.components.now c.args.values.now c.args.tolds.now c.loop-index.index c.loop-index.invariant _ _ _ c.part_comes_to.result l c.index-values-index.is c.loop-index-test.true c.index-tolds-index.is c.component_at-component.ensures c.part_comes_to.ensures c.if-not-part_comes_to.false

pub parts_come_to-returns : goal.parts_come_to-returns
parts_come_to-returns t c = ComparedParts.parts_ended c.args.kinds.now c.args.are_added c.args.components.now c.args.values.now c.args.tolds.now c.loop-index.index c.loop-index.invariant (omega arith) c.loop-index-test.false

pub part_comes_to-returns-then-not-there : goal.part_comes_to-returns-then-not-there
part_comes_to-returns-then-not-there t c = λ n le.
    ComparedParts.part_absent (groups c.args.is_added c.args.kinds.now) (λ j. schema_at c.args.kinds.now j n) _ (slot_of c.args.value.now) (tree_slot c.args.told.now) c.is_there-there.result c.is_there-told_there.result c.is_there-there.ensures c.if-not-there.true c.is_there-told_there.ensures

pub part_comes_to-returns-in-Some : goal.part_comes_to-returns-in-Some
part_comes_to-returns-in-Some t c = λ n le. rw c.in-Some.is (c.component_comes_to.ensures (sym c.is_there-there.ensures ∙ c.if-not-there.false) n le)

pub part_comes_to-returns-in-None : goal.part_comes_to-returns-in-None
part_comes_to-returns-in-None t c = λ n le. rw c.in-None.is
    (ComparedParts.part_past c.args.kinds.now (groups c.args.is_added c.args.kinds.now) n (slot_of c.args.value.now) c.args.told.now c.is_there-there.result c.slot_comes_to.result c.is_there-there.ensures c.if-not-there.false (c.slot_comes_to.ensures.at n le))

pub component_comes_to-returns-then-is_vacant_group : goal.component_comes_to-returns-then-is_vacant_group
component_comes_to-returns-then-is_vacant_group t c = λ q n le.
    let ts = c.args.kinds.now in
    let d = tree_slot c.args.told.now in
    ComparedParts.at_there (λ o. not c.is_there-told_there.result ≡ same_slot (settled (groups c.args.is_added ts) (λ j. schema_at ts j n) (Some c.args.component.now) o) d) (slot_of c.args.value.now) q
    (ComparedParts.part_vacant ts c.args.is_added c.args.component.now n (value_of c.args.value.now) c.is_vacant_group.result (c.is_vacant_group.ensures n le) d c.is_there-told_there.result c.if-is_vacant_group.true c.is_there-told_there.ensures)

pub component_comes_to-returns : goal.component_comes_to-returns
component_comes_to-returns t c = λ q n le.
    let ts = c.args.kinds.now in
    let d = tree_slot c.args.told.now in
    ComparedParts.at_there (λ o. c.slot_comes_to.result ≡ same_slot (settled (groups c.args.is_added ts) (λ j. schema_at ts j n) (Some c.args.component.now) o) d) (slot_of c.args.value.now) q
    (ComparedParts.part_full ts c.args.is_added c.args.component.now n (value_of c.args.value.now) c.is_vacant_group.result (c.is_vacant_group.ensures n le) d c.slot_comes_to.result c.if-is_vacant_group.false (c.slot_comes_to.ensures.at n le))

pub slot_comes_to-returns-then-not-is_there : goal.slot_comes_to-returns-then-not-is_there
slot_comes_to-returns-then-not-is_there t c = record {
  at = λ n le. ComparedParts.slot_untold (normal (schema_at c.args.kinds.now c.args.place n) (value_of c.args.value.now)) (tree_slot c.args.told.now) c.is_there.result c.is_there.ensures c.if-not-is_there.true;
}

pub slot_comes_to-returns : goal.slot_comes_to-returns
slot_comes_to-returns t c = record {
  at = λ n le. ComparedParts.slot_told (normal (schema_at c.args.kinds.now c.args.place n) (value_of c.args.value.now)) c.args.told.now c.comes_to.result c.is_there.result c.is_there.ensures c.if-not-is_there.false (c.comes_to.ensures.at n le);
}

pub is_vacant_group-returns-in-Some : goal.is_vacant_group-returns-in-Some
is_vacant_group-returns-in-Some t c = λ n le.
    ComparedParts.group_vacant c.args.kinds.now c.args.is_added c.args.component.now c.in-Some.record.now n (value_of c.args.value.now) c.is_vacant.result (sym c.group_of.ensures ∙ ap (option_map (λ r. r.now)) c.in-Some.is) (c.is_vacant.ensures.at n le)

pub is_vacant-are_idle-root_idle-requires : goal.is_vacant-are_idle-root_idle-requires
is_vacant-are_idle-root_idle-requires t c =
    let e = c.in-Fields.is ∙ sym (rolls-Fields c.in-Fields.root c.in-Fields.additions) in
    let el = fields_levels c.args.value.now _ _ e ∙ ap₂ (λ vs ws. suc (max (deepest levels_of vs) (deepest levels_of ws))) (sym c.deref-root_values.ensures.value) (sym c.deref-added_values.ensures.value) in
    grind (arith, common_steps, el)

pub is_vacant-are_idle-requires : goal.is_vacant-are_idle-requires
is_vacant-are_idle-requires t c =
    let e = c.in-Fields.is ∙ sym (rolls-Fields c.in-Fields.root c.in-Fields.additions) in
    let el = fields_levels c.args.value.now _ _ e ∙ ap₂ (λ vs ws. suc (max (deepest levels_of vs) (deepest levels_of ws))) (sym c.deref-root_values.ensures.value) (sym c.deref-added_values.ensures.value) in
    grind (arith, common_steps, el)

pub is_vacant-returns-then-not-root_idle : goal.is_vacant-returns-then-not-root_idle
is_vacant-returns-then-not-root_idle t c =
    ComparedParts.record_full c.args.kinds.now c.args.record.now c.args.value.now c.in-Fields.root c.in-Fields.additions c.in-Fields.is c.are_idle-root_idle.result c.if-not-root_idle.true (rw (c.root-components.ensures, c.deref-root_values.ensures.value) at c.are_idle-root_idle.ensures)

pub is_vacant-returns-else-not-root_idle : goal.is_vacant-returns-else-not-root_idle
is_vacant-returns-else-not-root_idle t c =
    ComparedParts.record_vacant c.args.kinds.now c.args.record.now c.args.value.now c.in-Fields.root c.in-Fields.additions c.in-Fields.is c.are_idle-root_idle.result c.are_idle.result c.if-not-root_idle.false
    (rw (c.root-components.ensures, c.deref-root_values.ensures.value) at c.are_idle-root_idle.ensures)
    (rw (c.behind-others.ensures, c.deref-added_values.ensures.value) at c.are_idle.ensures)

pub is_vacant-returns-in_default : goal.is_vacant-returns-in_default
is_vacant-returns-in_default t c = ComparedParts.no_record_vacant (record_schema c.args.kinds.now c.args.record.now) c.args.value.now c.in_default.not-Fields

pub are_idle-is_idle-requires : goal.are_idle-is_idle-requires
are_idle-is_idle-requires t c =
    let l : c.loop-index.index < length c.args.values.now = omega arith in
    grind (arith, common_steps, deepest_at c.args.values.now _ _ l c.index-values-index.is)

pub are_idle-returns-then-values-components : goal.are_idle-returns-then-values-components
are_idle-returns-then-values-components t c = ComparedParts.idle_uneven c.args.kinds.now c.args.are_added c.args.components.now c.args.values.now (λ e. omega (arith, e))

pub are_idle-loop-index-init : goal.are_idle-loop-index-init
are_idle-loop-index-init t c = ComparedParts.idle_begun c.args.kinds.now c.args.are_added c.args.components.now c.args.values.now

pub are_idle-returns-then-not-is_idle : goal.are_idle-returns-then-not-is_idle
are_idle-returns-then-not-is_idle t c =
    let l : c.loop-index.index < length c.args.values.now = omega arith in
    ComparedParts.idle_failed c.args.kinds.now c.args.are_added c.args.components.now c.args.values.now c.loop-index.index c.loop-index.invariant _ _ c.is_idle.result l c.index-values-index.is c.loop-index-test.true c.index-components-index.is c.is_idle.ensures c.if-not-is_idle.true

pub are_idle-loop-index-preserved : goal.are_idle-loop-index-preserved
are_idle-loop-index-preserved t c =
    let l : c.loop-index.index < length c.args.values.now = omega arith in
    ComparedParts.idle_passed c.args.kinds.now c.args.are_added c.args.components.now c.args.values.now c.loop-index.index c.loop-index.invariant _ _ c.is_idle.result l c.index-values-index.is c.loop-index-test.true c.index-components-index.is c.is_idle.ensures c.if-not-is_idle.false

pub are_idle-returns : goal.are_idle-returns
are_idle-returns t c = ComparedParts.idle_ended c.args.kinds.now c.args.are_added c.args.components.now c.args.values.now c.loop-index.index c.loop-index.invariant (omega arith) c.loop-index-test.false

pub is_idle-returns-then-not-there : goal.is_idle-returns-then-not-there
is_idle-returns-then-not-there t c = λ n le.
    ComparedParts.idle_absent (groups c.args.is_added c.args.kinds.now) (λ j. schema_at c.args.kinds.now j n) c.args.component.now (slot_of c.args.value.now) c.is_there-there.result c.is_not_required.result c.is_there-there.ensures c.if-not-there.true c.is_not_required.ensures

pub is_idle-returns-in-Required : goal.is_idle-returns-in-Required
is_idle-returns-in-Required t c = λ n le.
    let ts = c.args.kinds.now in let k = c.args.component.now in
    ComparedParts.at_there (λ o. false ≡ is_idle (presence_of (groups c.args.is_added ts k) k.presence) (settled (groups c.args.is_added ts) (λ j. schema_at ts j n) (Some k) o)) (slot_of c.args.value.now) (sym c.is_there-there.ensures ∙ c.if-not-there.false)
    (ComparedParts.idle_required ts c.args.is_added k n (value_of c.args.value.now) c.in-Required.is)

pub is_idle-returns-in-Optional : goal.is_idle-returns-in-Optional
is_idle-returns-in-Optional t c = λ n le.
    let ts = c.args.kinds.now in let k = c.args.component.now in
    ComparedParts.at_there (λ o. false ≡ is_idle (presence_of (groups c.args.is_added ts k) k.presence) (settled (groups c.args.is_added ts) (λ j. schema_at ts j n) (Some k) o)) (slot_of c.args.value.now) (sym c.is_there-there.ensures ∙ c.if-not-there.false)
    (ComparedParts.idle_optional ts c.args.is_added k n (value_of c.args.value.now) c.in-Optional.is)

pub is_idle-returns-in-Group : goal.is_idle-returns-in-Group
is_idle-returns-in-Group t c = λ n le.
    let ts = c.args.kinds.now in let k = c.args.component.now in
    ComparedParts.at_there (λ o. c.is_vacant_group.result ≡ is_idle (presence_of (groups c.args.is_added ts k) k.presence) (settled (groups c.args.is_added ts) (λ j. schema_at ts j n) (Some k) o)) (slot_of c.args.value.now) (sym c.is_there-there.ensures ∙ c.if-not-there.false)
    (ComparedParts.idle_group ts c.args.is_added k n (value_of c.args.value.now) c.is_vacant_group.result c.in-Group.is (c.is_vacant_group.ensures n le))

pub is_idle-returns-in-Default : goal.is_idle-returns-in-Default
is_idle-returns-in-Default t c = λ n le.
    let ts = c.args.kinds.now in let k = c.args.component.now in
    ComparedParts.at_there (λ o. c.comes_to.result ≡ is_idle (presence_of (groups c.args.is_added ts k) k.presence) (settled (groups c.args.is_added ts) (λ j. schema_at ts j n) (Some k) o)) (slot_of c.args.value.now) (sym c.is_there-there.ensures ∙ c.if-not-there.false)
    (ComparedParts.idle_default ts c.args.is_added k n (value_of c.args.value.now) c.in-Default.otherwise c.comes_to.result c.in-Default.is (c.comes_to.ensures.at n le))

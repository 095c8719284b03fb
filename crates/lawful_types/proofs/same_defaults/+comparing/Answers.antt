use Rattle.std.proofs.Common.{◌∙◌, refl, ap, ◌<◌, map, length, arith}
use Rattle.rasn_schema.specs.Structures.{list_value}
use Rattle.rasn_dynamic.proofs.DefaultTrees.{elements_stated}
use Rattle.rasn_types.specs.Values.{same}
use Rattle.rasn_dynamic.specs.Defaults.{same_slot}
use Rattle.rasn_dynamic.specs.Types.{tree_slot, tree_value}
use Rattle.lawful_types.proofs.Pairwise.{paired_begun, paired_ended, paired_failed, paired_passed, paired_uneven}
use Rattle.lawful_types.proofs.SameTrees
use Rattle.lawful_types.proofs.same_defaults.+comparing.Goals as goal

pub are_same_values-returns-then-owns-others : goal.are_same_values-returns-then-owns-others
are_same_values-returns-then-owns-others t c = paired_uneven 0 (λ n d e. same (tree_value d) (tree_value e)) c.args.owns.now c.args.others.now (λ e. omega (arith, e)) 0 (omega arith)

pub are_same_values-loop-index-init : goal.are_same_values-loop-index-init
are_same_values-loop-index-init t c = paired_begun 0 (λ n d e. same (tree_value d) (tree_value e)) c.args.owns.now c.args.others.now

pub are_same_values-returns-then-not-are_same : goal.are_same_values-returns-then-not-are_same
are_same_values-returns-then-not-are_same t c =
    let l : c.loop-index.index < length c.args.others.now = omega arith in
    paired_failed 0 (λ n d e. same (tree_value d) (tree_value e)) c.args.owns.now c.args.others.now c.loop-index.index c.loop-index.invariant _ _ c.are_same.result c.loop-index-test.true c.index-owns-index.is l c.index-others-index.is (λ n le. c.are_same.ensures) c.if-not-are_same.true 0 (omega arith)

pub are_same_values-loop-index-preserved : goal.are_same_values-loop-index-preserved
are_same_values-loop-index-preserved t c =
    let l : c.loop-index.index < length c.args.others.now = omega arith in
    paired_passed 0 (λ n d e. same (tree_value d) (tree_value e)) c.args.owns.now c.args.others.now c.loop-index.index c.loop-index.invariant _ _ c.are_same.result c.loop-index-test.true c.index-owns-index.is l c.index-others-index.is (λ n le. c.are_same.ensures) c.if-not-are_same.false

pub are_same_values-returns : goal.are_same_values-returns
are_same_values-returns t c = paired_ended 0 (λ n d e. same (tree_value d) (tree_value e)) c.args.owns.now c.args.others.now c.loop-index.index c.loop-index.invariant (omega arith) (omega arith) 0 (omega arith)

pub are_same_slots-returns-then-owns-others : goal.are_same_slots-returns-then-owns-others
are_same_slots-returns-then-owns-others t c = paired_uneven 0 (λ n d e. same_slot (tree_slot d) (tree_slot e)) c.args.owns.now c.args.others.now (λ e. omega (arith, e)) 0 (omega arith)

pub are_same_slots-loop-index-init : goal.are_same_slots-loop-index-init
are_same_slots-loop-index-init t c = paired_begun 0 (λ n d e. same_slot (tree_slot d) (tree_slot e)) c.args.owns.now c.args.others.now

pub are_same_slots-returns-then-not-is_same_slot : goal.are_same_slots-returns-then-not-is_same_slot
are_same_slots-returns-then-not-is_same_slot t c =
    let l : c.loop-index.index < length c.args.others.now = omega arith in
    paired_failed 0 (λ n d e. same_slot (tree_slot d) (tree_slot e)) c.args.owns.now c.args.others.now c.loop-index.index c.loop-index.invariant _ _ c.is_same_slot.result c.loop-index-test.true c.index-owns-index.is l c.index-others-index.is (λ n le. c.is_same_slot.ensures) c.if-not-is_same_slot.true 0 (omega arith)

pub are_same_slots-loop-index-preserved : goal.are_same_slots-loop-index-preserved
are_same_slots-loop-index-preserved t c =
    let l : c.loop-index.index < length c.args.others.now = omega arith in
    paired_passed 0 (λ n d e. same_slot (tree_slot d) (tree_slot e)) c.args.owns.now c.args.others.now c.loop-index.index c.loop-index.invariant _ _ c.is_same_slot.result c.loop-index-test.true c.index-owns-index.is l c.index-others-index.is (λ n le. c.is_same_slot.ensures) c.if-not-is_same_slot.false

pub are_same_slots-returns : goal.are_same_slots-returns
are_same_slots-returns t c = paired_ended 0 (λ n d e. same_slot (tree_slot d) (tree_slot e)) c.args.owns.now c.args.others.now c.loop-index.index c.loop-index.invariant (omega arith) (omega arith) 0 (omega arith)

pub is_same_slot-returns-then-not-is_there : goal.is_same_slot-returns-then-not-is_there
is_same_slot-returns-then-not-is_there t c = SameTrees.absent_same (tree_slot c.args.own.now) (tree_slot c.args.other.now) c.is_there.result c.is_there-there.result c.is_there.ensures c.if-not-is_there.true c.is_there-there.ensures

pub is_same_slot-returns-then-not-there : goal.is_same_slot-returns-then-not-there
is_same_slot-returns-then-not-there t c = SameTrees.there_absent (tree_slot c.args.own.now) (tree_slot c.args.other.now) c.is_there.result c.is_there-there.result c.is_there.ensures c.if-not-is_there.false c.is_there-there.ensures c.if-not-there.true

pub is_same_slot-returns : goal.is_same_slot-returns
is_same_slot-returns t c = SameTrees.both_there (tree_slot c.args.own.now) (tree_slot c.args.other.now) c.is_there.result c.is_there-there.result c.are_same.result c.is_there.ensures c.if-not-is_there.false c.is_there-there.ensures c.if-not-there.false c.are_same.ensures

pub are_same-returns-in-Elements : goal.are_same-returns-in-Elements
are_same-returns-in-Elements t c = c.is_list.ensures ∙ ap (λ v. same v (tree_value c.args.other.now)) (elements_stated c.in-Elements.owns c.deref-elements.result.now c.args.own.now c.deref-elements.ensures.value c.in-Elements.is)

pub are_same-returns-then-not-root_same : goal.are_same-returns-then-not-root_same
are_same-returns-then-not-root_same t c =
    SameTrees.records_differ c.deref-root_owns.result.now c.deref-added_owns.result.now c.deref-root_tolds.result.now c.deref-added_tolds.result.now c.args.other.now c.are_same_slots-root_same.result c.are_same_slots-root_same.ensures c.if-not-root_same.true
    (SameTrees.fields_stated c.in-Fields-other.other_root c.in-Fields-other.other_additions c.deref-root_tolds.result.now c.deref-added_tolds.result.now c.args.other.now c.deref-root_tolds.ensures.value c.deref-added_tolds.ensures.value c.in-Fields-other.is)
    ∙ ap (λ v. same v (tree_value c.args.other.now)) (SameTrees.fields_stated c.in-Fields.root c.in-Fields.additions c.deref-root_owns.result.now c.deref-added_owns.result.now c.args.own.now c.deref-root_owns.ensures.value c.deref-added_owns.ensures.value c.in-Fields.is)

pub are_same-returns-else-not-root_same : goal.are_same-returns-else-not-root_same
are_same-returns-else-not-root_same t c =
    SameTrees.records_agree c.deref-root_owns.result.now c.deref-added_owns.result.now c.deref-root_tolds.result.now c.deref-added_tolds.result.now c.args.other.now c.are_same_slots-root_same.result c.are_same_slots.result c.are_same_slots-root_same.ensures c.if-not-root_same.false c.are_same_slots.ensures
    (SameTrees.fields_stated c.in-Fields-other.other_root c.in-Fields-other.other_additions c.deref-root_tolds.result.now c.deref-added_tolds.result.now c.args.other.now c.deref-root_tolds.ensures.value c.deref-added_tolds.ensures.value c.in-Fields-other.is)
    ∙ ap (λ v. same v (tree_value c.args.other.now)) (SameTrees.fields_stated c.in-Fields.root c.in-Fields.additions c.deref-root_owns.result.now c.deref-added_owns.result.now c.args.own.now c.deref-root_owns.ensures.value c.deref-added_owns.ensures.value c.in-Fields.is)

pub are_same-returns-in_default : goal.are_same-returns-in_default
are_same-returns-in_default t c =
    SameTrees.no_record (map tree_slot c.in-Fields.root.items) (map tree_slot c.in-Fields.additions.items) c.args.other.now c.in_default.not-Fields
    ∙ ap (λ v. same v (tree_value c.args.other.now)) (SameTrees.fields_stated c.in-Fields.root c.in-Fields.additions c.in-Fields.root.items c.in-Fields.additions.items c.args.own.now refl refl c.in-Fields.is)

pub is_list-returns-in-Elements : goal.is_list-returns-in-Elements
is_list-returns-in-Elements t c =
    c.are_same_values.ensures ∙ SameTrees.values_same c.args.owns.now c.deref-elements.result.now
    ∙ ap (same (list_value (map tree_value c.args.owns.now))) (elements_stated c.in-Elements.tolds c.deref-elements.result.now c.args.told.now c.deref-elements.ensures.value c.in-Elements.is)

pub is_list-returns-in_default : goal.is_list-returns-in_default
is_list-returns-in_default t c = SameTrees.no_list (map tree_value c.args.owns.now) c.args.told.now c.in_default.not-Plain c.in_default.not-Elements

pub is_alternative-returns-then-not-are_same_place : goal.is_alternative-returns-then-not-are_same_place
is_alternative-returns-then-not-are_same_place t c =
    SameTrees.choices_differ c.args.own_at c.in-Alternative.at (tree_value c.args.own.now) (tree_value c.deref-value.result.now) c.args.told.now c.are_same_place.result c.are_same_place.ensures c.if-not-are_same_place.true
    (SameTrees.chosen_stated c.in-Alternative.at c.in-Alternative.chosen c.deref-value.result.now c.args.told.now c.in-Alternative.is c.deref-value.ensures)

pub is_alternative-returns-else-not-are_same_place : goal.is_alternative-returns-else-not-are_same_place
is_alternative-returns-else-not-are_same_place t c =
    SameTrees.choices_agree c.args.own_at c.in-Alternative.at (tree_value c.args.own.now) (tree_value c.deref-value.result.now) c.args.told.now c.are_same_place.result c.are_same.result c.are_same_place.ensures c.if-not-are_same_place.false c.are_same.ensures
    (SameTrees.chosen_stated c.in-Alternative.at c.in-Alternative.chosen c.deref-value.result.now c.args.told.now c.in-Alternative.is c.deref-value.ensures)

pub is_alternative-returns-in_default : goal.is_alternative-returns-in_default
is_alternative-returns-in_default t c = SameTrees.no_choice c.args.own_at (tree_value c.args.own.now) c.args.told.now c.in_default.not-Alternative

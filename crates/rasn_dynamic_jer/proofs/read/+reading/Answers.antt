use Rattle.std.proofs.Common.{◌≡◌, suc, ◌∙◌, sym, ap, subst, inl, inr, Option, Some, None, option_map, ℕ, List, map, rules, refl, arith}
use Rattle.std.proofs.lemmas.Result.{err_from_is_err_and}
use Rattle.rasn_types.specs.AllOf.{all_of}
use Rattle.rasn_types.specs.Values.{Value, alternative, bag_of, octets}
use Rattle.rasn_schema.specs.Structures.{list_value, record_value}
use Rattle.rasn_traits.specs.Counted.{index_in, side_of}
use Rattle.rasn_dynamic.specs.Values.{slot_of, value_of}
use Rattle.rasn_dynamic.proofs.Trees.{absent_slot, alternative_slot, bag_slot, elements_slot, fields_slot}
use Rattle.json.specs.Value.{items_view, members_view, value_view}
use Rattle.std.specs.Option.{option_and_then}
use Rattle.json.specs.Find.{get}
use Rattle.json.specs.Json.{Json, Members}
use Rattle.rasn_schema.specs.declared.items.Place.{Place}
use Rattle.rasn_dynamic.specs.declared.types.Alternative.{Alternative}
use Rattle.rasn_dynamic.specs.declared.types.Kind.{Kind}
use Rattle.rasn_dynamic.specs.declared.types.Record.{Record}
use Rattle.rasn_dynamic.specs.declared.types.Row.{Row}
use Rattle.rasn_dynamic_jer.specs.FromJson.{addition_told, additions_told, alternative_told, chosen_told, components_told, group_told, has_member, members_told, one_told, slot_told, TellsSlot, TellsValue, TellsValues, told_at, told_by, told_in, items_told, values_told, octets_in, one_row_told, open_told, read_told, row_told}
use Rattle.rasn_dynamic_jer.proofs.Gathered.{no_more, one_lacks, one_more}
use Rattle.rasn_dynamic_jer.proofs.Parts.{items_each}
use Rattle.rasn_dynamic_jer.proofs.Records.{all_fields, group_lacks, no_additions, no_group, no_root, not_members, not_one, not_one_row, one_member, value_slot, whole_group}
use Rattle.rasn_dynamic_jer.proofs.Untold.{no_level, told_below, told_last, told_none, told_value, untold_by}
use Rattle.rasn_dynamic_jer.proofs.read.+reading.Goals as goal

pub read_items-returns-in_err-value : goal.read_items-returns-in_err-value
read_items-returns-in_err-value t c =
    let p = err_from_is_err_and c.from_residual.result c.from_residual.ensures.1 in
    rw (p.1, p.2) (untold_by _ _ _ (λ h. one_lacks _ value_of c.args.items.now c.loop-item.values.items _ _ c.loop-item-test.true c.item-item.is h c.loop-item.invariant) c.in_err-value.ensures)

pub read_items-loop-item-preserved : goal.read_items-loop-item-preserved
read_items-loop-item-preserved t c =
    rw c.in_ok-push.ensures.items (one_more _ value_of c.args.items.now c.loop-item.values.items _ _ c.in_ok-value.value c.loop-item-test.true c.item-item.is (told_value _ _ c.in_ok-value.ensures) c.loop-item.invariant)

pub read_items-returns : goal.read_items-returns
read_items-returns t c = no_more _ value_of c.args.items.now c.loop-item.values.items _ c.loop-item-test.false c.loop-item.invariant

pub read_components-returns-in_err-value : goal.read_components-returns-in_err-value
read_components-returns-in_err-value t c =
    let p = err_from_is_err_and c.from_residual.result c.from_residual.ensures.1 in
    rw (p.1, p.2) (untold_by _ _ _ (λ h. one_lacks _ slot_of c.args.components.now c.loop-component.values.items _ _ c.loop-component-test.true c.component-item.is h c.loop-component.invariant) c.in_err-value.ensures)

pub read_components-loop-component-preserved : goal.read_components-loop-component-preserved
read_components-loop-component-preserved t c =
    rw c.in_ok-push.ensures.items (one_more _ slot_of c.args.components.now c.loop-component.values.items _ _ c.in_ok-value.value c.loop-component-test.true c.component-item.is c.in_ok-value.ensures c.loop-component.invariant)

pub read_components-returns : goal.read_components-returns
read_components-returns t c = no_more _ slot_of c.args.components.now c.loop-component.values.items _ c.loop-component-test.false c.loop-component.invariant

pub read_additions-returns-in_err-value : goal.read_additions-returns-in_err-value
read_additions-returns-in_err-value t c =
    let p = err_from_is_err_and c.from_residual.result c.from_residual.ensures.1 in
    rw (p.1, p.2) (untold_by _ _ _ (λ h. one_lacks _ slot_of c.args.components.now c.loop-component.values.items _ _ c.loop-component-test.true c.component-item.is h c.loop-component.invariant) c.in_err-value.ensures)

pub read_additions-loop-component-preserved : goal.read_additions-loop-component-preserved
read_additions-loop-component-preserved t c =
    rw c.in_ok-push.ensures.items (one_more _ slot_of c.args.components.now c.loop-component.values.items _ _ c.in_ok-value.value c.loop-component-test.true c.component-item.is c.in_ok-value.ensures c.loop-component.invariant)

pub read_additions-returns : goal.read_additions-returns
read_additions-returns t c = no_more _ slot_of c.args.components.now c.loop-component.values.items _ c.loop-component-test.false c.loop-component.invariant

pub read_list-returns-in_err-values : goal.read_list-returns-in_err-values
read_list-returns-in_err-values t c =
    let p = err_from_is_err_and c.from_residual.result c.from_residual.ensures.1 in
    rw (p.1, p.2) (untold_by _ _ _ (λ h. ap (option_map list_value) h) c.in_err-values.ensures)

pub read_list-returns : goal.read_list-returns
read_list-returns t c = ap (λ o. option_map Some (option_map list_value o)) c.in_ok-values.ensures ∙ ap Some (sym (elements_slot c.in_ok-values.values))

pub read_set_of-returns-in_err-values : goal.read_set_of-returns-in_err-values
read_set_of-returns-in_err-values t c =
    let p = err_from_is_err_and c.from_residual.result c.from_residual.ensures.1 in
    rw (p.1, p.2) (untold_by _ _ _ (λ h. ap (option_map bag_of) h) c.in_err-values.ensures)

pub read_set_of-returns : goal.read_set_of-returns
read_set_of-returns t c = ap (λ o. option_map Some (option_map bag_of o)) c.in_ok-values.ensures ∙ ap Some (sym (bag_slot c.in_ok-values.values))

pub read_array-returns-in-Some : goal.read_array-returns-in-Some
read_array-returns-in-Some t c =
    let F = told_at c.args.kinds.now c.args.levels c.args.of in
    let e = sym c.items_of.ensures ∙ ap (option_map (λ s. items_view s.now)) c.in-Some.is in
    subst (λ (o : Option (List Value)). TellsValues o c.read_items.result) (sym (ap (option_and_then (items_told F)) e ∙ items_each F c.in-Some.items.now)) c.read_items.ensures

pub read_record-returns-in-Some : goal.read_record-returns-in-Some
read_record-returns-in-Some t c =
    let F = told_at c.args.kinds.now c.args.levels in
    let e = sym c.members_of.ensures ∙ ap (option_map (λ s. members_view s.now)) c.in-Some.is in
    subst (λ (o : Option Value). TellsValue o c.read_members.result) (sym (ap (option_and_then (members_told c.args.kinds.now F c.args.sequence.now (value_view c.args.json.now))) e)) c.read_members.ensures

pub read_members-returns-in_err-root : goal.read_members-returns-in_err-root
read_members-returns-in_err-root t c =
    let p = err_from_is_err_and c.from_residual.result c.from_residual.ensures.1 in
    let F = told_at c.args.kinds.now c.args.levels in
    rw (p.1, p.2) (untold_by _ _ _ (λ h. no_root _ _ _ (ap (components_told F (value_view c.args.json.now)) (sym c.root-components.ensures) ∙ h)) c.in_err-root.ensures)

pub read_members-returns-in_err-added : goal.read_members-returns-in_err-added
read_members-returns-in_err-added t c =
    let p = err_from_is_err_and c.from_residual-in_err-added.result c.from_residual-in_err-added.ensures.1 in
    let F = told_at c.args.kinds.now c.args.levels in
    rw (p.1, p.2) (untold_by _ _ _ (λ h. no_additions _ _ _ (ap (additions_told c.args.kinds.now F (value_view c.args.json.now)) (sym c.behind-additions.ensures) ∙ h)) c.in_err-added.ensures)

pub read_members-returns-then-not-are_members : goal.read_members-returns-then-not-are_members
read_members-returns-then-not-are_members t c = inr (not_members _ _ _ (sym c.are_members.ensures ∙ c.if-not-are_members.true))

pub read_members-returns : goal.read_members-returns
read_members-returns t c =
    let F = told_at c.args.kinds.now c.args.levels in
    let j = value_view c.args.json.now in
    ap (option_map Some) (all_fields _ _ _ _ _ (sym c.are_members.ensures ∙ c.if-not-are_members.false)
    (ap (components_told F j) (sym c.root-components.ensures) ∙ c.in_ok-root.ensures)
    (ap (additions_told c.args.kinds.now F j) (sym c.behind-additions.ensures) ∙ c.in_ok-added.ensures))
    ∙ ap Some (sym (fields_slot c.in_ok-root.root c.in_ok-added.added))

pub read_component-returns-in-Some : goal.read_component-returns-in-Some
read_component-returns-in-Some t c =
    let F = told_at c.args.kinds.now c.args.levels in
    let j = value_view c.args.json.now in
    let e = ap (λ (s : List ℕ). get s j) (sym c.as_str.ensures.value) ∙ sym c.get.ensures ∙ ap (option_map (λ v. value_view v.now)) c.in-Some.is in
    subst (λ (o : Option Json). TellsSlot (slot_told F c.args.component.now o) c.read_at.result) (sym e) (value_slot _ _ c.read_at.ensures)

pub read_addition-returns-in-Some : goal.read_addition-returns-in-Some
read_addition-returns-in-Some t c =
    let F = told_at c.args.kinds.now c.args.levels in
    let e = sym c.group_in.ensures ∙ ap (option_map (λ r. r.now)) c.in-Some.is in
    subst (λ (o : Option Record). TellsSlot (addition_told F (value_view c.args.json.now) o c.args.component.now) c.read_group.result) (sym e) c.read_group.ensures

pub read_addition-returns-in-None : goal.read_addition-returns-in-None
read_addition-returns-in-None t c =
    let F = told_at c.args.kinds.now c.args.levels in
    let e = sym c.group_in.ensures ∙ ap (option_map (λ r. r.now)) c.in-None.is in
    subst (λ (o : Option Record). TellsSlot (addition_told F (value_view c.args.json.now) o c.args.component.now) c.read_component.result) (sym e) c.read_component.ensures

pub read_at-returns-in-Some : goal.read_at-returns-in-Some
read_at-returns-in-Some t c =
    let e = sym c.kind_within.ensures ∙ ap (option_map (λ k. k.now)) c.in-Some.is in
    subst (λ (o : Option Kind). TellsValue (told_by c.args.kinds.now c.args.levels o (value_view c.args.json.now)) c.read_kind.result) (sym e) c.read_kind.ensures

pub read_at-returns-in-None : goal.read_at-returns-in-None
read_at-returns-in-None t c =
    let e = sym c.kind_within.ensures ∙ ap (option_map (λ k. k.now)) c.in-None.is in
    inr (ap (λ o. told_by c.args.kinds.now c.args.levels o (value_view c.args.json.now)) e ∙ told_none c.args.kinds.now c.args.levels (value_view c.args.json.now))

pub read_kind-returns-in-Some : goal.read_kind-returns-in-Some
read_kind-returns-in-Some t c =
    let k = c.args.kind.now in
    let j = value_view c.args.json.now in
    let n : c.args.levels ≡ suc c.in-Some.below = omega (arith, c.in-Some.ensures.0, c.in-Some.ensures.1) in
    subst (λ (o : Option Value). TellsValue o c.read_within.result) (sym (told_below c.args.kinds.now c.args.levels c.in-Some.below (Some k) j n)) c.read_within.ensures

pub read_kind-returns-in-None : goal.read_kind-returns-in-None
read_kind-returns-in-None t c =
    let n = no_level c.args.levels c.in-None.ensures in
    subst (λ (o : Option Value). TellsValue o c.read_alone.result) (sym (told_last c.args.kinds.now c.args.levels (Some c.args.kind.now) (value_view c.args.json.now) n)) c.read_alone.ensures

pub read_array-returns-in-None : goal.read_array-returns-in-None
read_array-returns-in-None t c =
    let F = told_at c.args.kinds.now c.args.levels c.args.of in
    inr (ap (option_and_then (items_told F)) (sym c.items_of.ensures ∙ ap (option_map (λ s. items_view s.now)) c.in-None.is))

pub read_record-returns-in-None : goal.read_record-returns-in-None
read_record-returns-in-None t c =
    let F = told_at c.args.kinds.now c.args.levels in
    inr (ap (option_and_then (members_told c.args.kinds.now F c.args.sequence.now (value_view c.args.json.now))) (sym c.members_of.ensures ∙ ap (option_map (λ s. members_view s.now)) c.in-None.is))

pub read_component-returns-in-None : goal.read_component-returns-in-None
read_component-returns-in-None t c =
    let F = told_at c.args.kinds.now c.args.levels in
    let j = value_view c.args.json.now in
    let e = ap (λ (s : List ℕ). get s j) (sym c.as_str.ensures.value) ∙ sym c.get.ensures ∙ ap (option_map (λ v. value_view v.now)) c.in-None.is in
    subst (λ (o : Option Json). TellsSlot (slot_told F c.args.component.now o) c.absent.result) (sym e) c.absent.ensures

pub read_group-returns-then-not-has_member : goal.read_group-returns-then-not-has_member
read_group-returns-then-not-has_member t c =
    no_group _ _ (ap (has_member (value_view c.args.json.now)) (sym c.root-components.ensures) ∙ sym c.has_member.ensures ∙ c.if-not-has_member.true) ∙ ap Some (sym absent_slot)

pub read_group-returns-in_err-root : goal.read_group-returns-in_err-root
read_group-returns-in_err-root t c =
    let p = err_from_is_err_and c.from_residual.result c.from_residual.ensures.1 in
    let F = told_at c.args.kinds.now c.args.levels in
    let j = value_view c.args.json.now in
    rw (p.1, p.2) (untold_by _ _ _ (λ h. group_lacks _ _ (ap (has_member j) (sym c.root-components.ensures) ∙ sym c.has_member.ensures ∙ c.if-not-has_member.false) (ap (components_told F j) (sym c.root-components.ensures) ∙ h)) c.in_err-root.ensures)

pub read_group-returns : goal.read_group-returns
read_group-returns t c =
    let F = told_at c.args.kinds.now c.args.levels in
    let j = value_view c.args.json.now in
    whole_group _ _ _ (ap (has_member j) (sym c.root-components.ensures) ∙ sym c.has_member.ensures ∙ c.if-not-has_member.false) (ap (components_told F j) (sym c.root-components.ensures) ∙ c.in_ok-root.ensures)
    ∙ ap (λ ws. Some (Some (record_value (map slot_of c.in_ok-root.root.items) (map slot_of ws)))) (sym c.new.ensures.items)
    ∙ ap Some (sym (fields_slot c.in_ok-root.root c.new.result))

pub read_choice-returns-in-Some : goal.read_choice-returns-in-Some
read_choice-returns-in-Some t c =
    let F = told_at c.args.kinds.now c.args.levels in
    let e = sym c.members_of.ensures ∙ ap (option_map (λ s. members_view s.now)) c.in-Some.is in
    subst (λ (o : Option Value). TellsValue o c.read_one.result) (sym (ap (option_and_then (one_told F c.args.choice.now)) e)) c.read_one.ensures

pub read_choice-returns-in-None : goal.read_choice-returns-in-None
read_choice-returns-in-None t c =
    let F = told_at c.args.kinds.now c.args.levels in
    inr (ap (option_and_then (one_told F c.args.choice.now)) (sym c.members_of.ensures ∙ ap (option_map (λ s. members_view s.now)) c.in-None.is))

pub read_named-returns-in-Some : goal.read_named-returns-in-Some
read_named-returns-in-Some t c =
    let F = told_at c.args.kinds.now c.args.levels in
    subst (λ (o : Option Place). TellsValue (alternative_told F c.args.choice.now o (value_view c.args.json.now)) c.read_alternative.result) (sym (sym c.alternative_place.ensures ∙ c.in-Some.is)) c.read_alternative.ensures

pub read_named-returns-in-None : goal.read_named-returns-in-None
read_named-returns-in-None t c =
    let F = told_at c.args.kinds.now c.args.levels in
    inr (ap (λ (o : Option Place). alternative_told F c.args.choice.now o (value_view c.args.json.now)) (sym c.alternative_place.ensures ∙ c.in-None.is))

pub read_alternative-returns-in-Some : goal.read_alternative-returns-in-Some
read_alternative-returns-in-Some t c =
    let F = told_at c.args.kinds.now c.args.levels in
    subst (λ (o : Option Alternative). TellsValue (chosen_told F c.args.place o (value_view c.args.json.now)) c.read_chosen.result) (sym c.in-Some.ensures) c.read_chosen.ensures

pub read_alternative-returns-in-None : goal.read_alternative-returns-in-None
read_alternative-returns-in-None t c =
    let F = told_at c.args.kinds.now c.args.levels in
    inr (ap (λ (o : Option Alternative). chosen_told F c.args.place o (value_view c.args.json.now)) c.in-None.ensures)

pub read_chosen-returns-in_err-value : goal.read_chosen-returns-in_err-value
read_chosen-returns-in_err-value t c =
    let p = err_from_is_err_and c.from_residual.result c.from_residual.ensures.1 in
    rw (p.1, p.2) (untold_by _ _ _ (λ h. ap (option_map (alternative (side_of c.args.place) (index_in c.args.place))) h) c.in_err-value.ensures)

pub read_chosen-returns : goal.read_chosen-returns
read_chosen-returns t c =
    let s = side_of c.args.place in
    let i = index_in c.args.place in
    let e : c.in_ok-chosen.chosen.value ≡ c.in_ok-value.value = search rules in
    ap (λ o. option_map Some (option_map (alternative s i) o)) (told_value _ _ c.in_ok-value.ensures)
    ∙ ap (λ v. Some (Some (alternative s i (value_of v)))) (sym e)
    ∙ ap Some (sym (alternative_slot c.args.place c.in_ok-chosen.chosen))

pub read_one-returns-in-len1 : goal.read_one-returns-in-len1
read_one-returns-in-len1 t c =
    let F = told_at c.args.kinds.now c.args.levels in
    subst (λ (ms : Members). TellsValue (one_told F c.args.choice.now ms) c.read_named.result) (sym (one_member c.args.members.now c.member-item.result (omega arith) c.member-item.is)) c.read_named.ensures

pub read_one-returns-in-empty : goal.read_one-returns-in-empty
read_one-returns-in-empty t c = inr (not_one (told_at c.args.kinds.now c.args.levels) c.args.choice.now c.args.members.now (λ h. omega arith))

pub read_one-returns-in-len2-up : goal.read_one-returns-in-len2-up
read_one-returns-in-len2-up t c = inr (not_one (told_at c.args.kinds.now c.args.levels) c.args.choice.now c.args.members.now (λ h. omega arith))

pub read_within-returns-in-List : goal.read_within-returns-in-List
read_within-returns-in-List t c = rw c.in-List.is c.read_list.ensures

pub read_within-returns-in-SetOf : goal.read_within-returns-in-SetOf
read_within-returns-in-SetOf t c = rw c.in-SetOf.is c.read_set_of.ensures

pub read_open-returns-in-Some : goal.read_open-returns-in-Some
read_open-returns-in-Some t c =
    let F = told_at c.args.kinds.now c.args.levels in
    let j = value_view c.args.json.now in
    let e = sym c.as_str.ensures ∙ ap (option_map (λ s. s.now)) c.in-Some.is in
    subst (λ (o : Option (List ℕ)). TellsValue (open_told F c.args.set.now o j) c.read_octets.result) (sym e)
    (subst (λ (o : Option (List ℕ)). TellsValue (option_map octets (option_and_then octets_in o)) c.read_octets.result) e c.read_octets.ensures)

pub read_open-returns-in-None : goal.read_open-returns-in-None
read_open-returns-in-None t c =
    let F = told_at c.args.kinds.now c.args.levels in
    let j = value_view c.args.json.now in
    let e = sym c.as_str.ensures ∙ ap (option_map (λ s. s.now)) c.in-None.is in
    subst (λ (o : Option (List ℕ)). TellsValue (open_told F c.args.set.now o j) c.read_opened.result) (sym e) c.read_opened.ensures

pub read_opened-returns-in-Some : goal.read_opened-returns-in-Some
read_opened-returns-in-Some t c =
    let F = told_at c.args.kinds.now c.args.levels in
    let e = sym c.members_of.ensures ∙ ap (option_map (λ s. members_view s.now)) c.in-Some.is in
    subst (λ (o : Option Value). TellsValue o c.read_row.result) (sym (ap (option_and_then (one_row_told F c.args.set.now)) e)) c.read_row.ensures

pub read_opened-returns-in-None : goal.read_opened-returns-in-None
read_opened-returns-in-None t c =
    let F = told_at c.args.kinds.now c.args.levels in
    inr (ap (option_and_then (one_row_told F c.args.set.now)) (sym c.members_of.ensures ∙ ap (option_map (λ s. members_view s.now)) c.in-None.is))

pub read_row-returns-in-len1 : goal.read_row-returns-in-len1
read_row-returns-in-len1 t c =
    let F = told_at c.args.kinds.now c.args.levels in
    subst (λ (ms : Members). TellsValue (one_row_told F c.args.set.now ms) c.read_row_named.result) (sym (one_member c.args.members.now c.member-item.result (omega arith) c.member-item.is)) c.read_row_named.ensures

pub read_row-returns-in-empty : goal.read_row-returns-in-empty
read_row-returns-in-empty t c = inr (not_one_row (told_at c.args.kinds.now c.args.levels) c.args.set.now c.args.members.now (λ h. omega arith))

pub read_row-returns-in-len2-up : goal.read_row-returns-in-len2-up
read_row-returns-in-len2-up t c = inr (not_one_row (told_at c.args.kinds.now c.args.levels) c.args.set.now c.args.members.now (λ h. omega arith))

pub read_row_named-returns-in-Some : goal.read_row_named-returns-in-Some
read_row_named-returns-in-Some t c =
    let F = told_at c.args.kinds.now c.args.levels in
    subst (λ (o : Option Place). TellsValue (row_told F c.args.set.now o (value_view c.args.json.now)) c.read_row_at.result) (sym (sym c.row_place.ensures ∙ c.in-Some.is)) c.read_row_at.ensures

pub read_row_named-returns-in-None : goal.read_row_named-returns-in-None
read_row_named-returns-in-None t c =
    let F = told_at c.args.kinds.now c.args.levels in
    inr (ap (λ (o : Option Place). row_told F c.args.set.now o (value_view c.args.json.now)) (sym c.row_place.ensures ∙ c.in-None.is))

pub read_row_at-returns-in-Some : goal.read_row_at-returns-in-Some
read_row_at-returns-in-Some t c =
    let F = told_at c.args.kinds.now c.args.levels in
    subst (λ (o : Option Row). TellsValue (read_told F c.args.place o (value_view c.args.json.now)) c.read_chosen.result) (sym c.in-Some.ensures) c.read_chosen.ensures

pub read_row_at-returns-in-None : goal.read_row_at-returns-in-None
read_row_at-returns-in-None t c =
    let F = told_at c.args.kinds.now c.args.levels in
    inr (ap (λ (o : Option Row). read_told F c.args.place o (value_view c.args.json.now)) c.in-None.ensures)

use Rattle.std.proofs.Common.{◌≡◌, refl, sym, ap, ap₂, ◌∙◌, subst, inl, inr, ℕ, suc, ◌<◌, max, [], map, take, length, Some, None, true, false, append-nil, arith}
use Rattle.std.proofs.lemmas.Result.{err_from_is_err_and}
use Rattle.std.proofs.lemmas.Grind.{common_steps}
use Rattle.rasn_dynamic.proofs.Trees.{bag_levels, deepest_at, elements_levels, fields_levels}
use Rattle.rasn_dynamic.specs.declared.types.Kind.TheVariants.{List as ListKind, SetOf, Record as RecordKind}
use Rattle.rasn_dynamic.specs.declared.values.Value.TheVariants.{rolls-Bag, rolls-Elements, rolls-Fields, rolls-Octets}
use Rattle.rasn_dynamic.specs.Types.{behind}
use Rattle.rasn_schema.specs.Lists.{deepest}
use Rattle.rasn_dynamic.specs.Values.{levels_of}
use Rattle.rasn_dynamic_jer.specs.Leaves.{below, digits_json}
use Rattle.rasn_dynamic_jer.specs.Puts.{ArePut, Puts, PutsMembers}
use Rattle.rasn_dynamic_jer.specs.Shown.{array_json, both, known, list_members, values_json}
use Rattle.rasn_dynamic_jer.proofs.Knowns.{bag_json, elements_json, fields_json, fields_members_of, object_of, open_put}
use Rattle.rasn_dynamic_jer.proofs.Putting.{all_put_more, array_put, below_less, both_then, list_none, list_put_more, list_uneven, members_left, members_written, object_put, refused_as, values_none}
use Rattle.rasn_dynamic_jer.proofs.write.+showing.Goals as goal

pub put_kind-returns-in-Simple : goal.put_kind-returns-in-Simple
put_kind-returns-in-Simple t c = rw c.in-Simple.is (c.put_simple.ensures c.args.kinds.now)

pub put_kind-returns-in-Date : goal.put_kind-returns-in-Date
put_kind-returns-in-Date t c = rw c.in-Date.is (c.put_date.ensures c.args.kinds.now c.args.levels)

pub put_kind-returns-in-List : goal.put_kind-returns-in-List
put_kind-returns-in-List t c = rw c.in-List.is (c.put_list.ensures _)

pub put_kind-returns-in-SetOf : goal.put_kind-returns-in-SetOf
put_kind-returns-in-SetOf t c = rw c.in-SetOf.is (c.put_set_of.ensures _)

pub put_list-returns-in-Elements : goal.put_list-returns-in-Elements
put_list-returns-in-Elements t c s =
    let ts = c.args.kinds.now in
    let n = c.args.levels in
    let e = elements_json ts n c.args.of s c.args.value.now _ (c.in-Elements.is ∙ sym (rolls-Elements c.in-Elements.values))
    ∙ ap (λ vs. below n (λ m. array_json ts m c.args.of (map (known ts) vs))) (sym c.deref.ensures.value) in
    subst (λ o. Puts o n c.args.writer.now c.put_array.result c.put_array.new.writer) (sym e) c.put_array.ensures

pub put_list-put_array-requires : goal.put_list-put_array-requires
put_list-put_array-requires t c =
    let e = elements_levels c.args.value.now _ (c.in-Elements.is ∙ sym (rolls-Elements c.in-Elements.values)) ∙ ap (λ vs. suc (deepest levels_of vs)) (sym c.deref.ensures.value) in
    grind (arith, common_steps, e)

pub put_set_of-returns-in-Bag : goal.put_set_of-returns-in-Bag
put_set_of-returns-in-Bag t c s =
    let ts = c.args.kinds.now in
    let n = c.args.levels in
    let e = bag_json ts n c.args.of s c.args.value.now _ (c.in-Bag.is ∙ sym (rolls-Bag c.in-Bag.values))
    ∙ ap (λ vs. below n (λ m. array_json ts m c.args.of (map (known ts) vs))) (sym c.deref.ensures.value) in
    subst (λ o. Puts o n c.args.writer.now c.put_array.result c.put_array.new.writer) (sym e) c.put_array.ensures

pub put_set_of-put_array-requires : goal.put_set_of-put_array-requires
put_set_of-put_array-requires t c =
    let e = bag_levels c.args.value.now _ (c.in-Bag.is ∙ sym (rolls-Bag c.in-Bag.values)) ∙ ap (λ vs. suc (deepest levels_of vs)) (sym c.deref.ensures.value) in
    grind (arith, common_steps, e)

pub put_array-returns : goal.put_array-returns
put_array-returns t c =
    let ts = c.args.kinds.now in
    let n = c.args.levels in
    let vs = map (known ts) c.args.values.now in
    let some = c.if-levels-eq0.false in
    subst (λ o. Puts o n c.args.writer.now c.put_token-2.result c.put_token-2.new.writer)
    (sym (below_less n (λ m. array_json ts m c.args.of vs) some))
    (array_put _ n c.put_token-2.result some c.in_ok-put_token.ensures.law c.put_token.ensures.before c.in_ok-put_values.ensures.law c.put_values.ensures.before c.put_token-2.ensures)

pub put_values-returns-in_err-put_at : goal.put_values-returns-in_err-put_at
put_values-returns-in_err-put_at t c =
    let p = err_from_is_err_and c.from_residual.result c.from_residual.ensures.1 in
    let ts = c.args.kinds.now in
    let vs = c.args.values.now in
    record {
      law = rw (p.1, p.2) (refused_as _ (values_json ts c.args.levels c.args.of vs) _ (values_none ts c.args.levels c.args.of c.loop-value.value-index vs _ c.loop-value-test.true c.value-item.is) c.in_err-put_at.ensures.law);
      before = c.put_at.ensures.before ∙ c.loop-value.invariant.before;
    }

pub put_values-loop-value-preserved : goal.put_values-loop-value-preserved
put_values-loop-value-preserved t c = record {
  put = all_put_more c.args.kinds.now c.args.levels c.args.of c.loop-value.value-index c.args.values.now _ c.loop-value.invariant.put c.loop-value-test.true c.value-item.is c.in_ok-put_at.ensures.law;
  before = c.put_at.ensures.before ∙ c.loop-value.invariant.before;
}

pub put_record-returns : goal.put_record-returns
put_record-returns t c =
    let ts = c.args.kinds.now in
    let n = c.args.levels in
    let v = c.args.value.now in
    let some = c.if-levels-eq0.false in
    subst (λ o. Puts o n c.args.writer.now c.put_token-2.result c.put_token-2.new.writer)
    (sym (fields_json ts n c.args.record.now v ∙ below_less n (λ m. object_of ((known ts v).members m c.args.record.now)) some))
    (object_put _ n c.put_token-2.result some c.in_ok-put_token.ensures.law c.put_token.ensures.before c.in_ok-put_members.ensures.law c.put_members.ensures.before c.put_token-2.ensures)

pub put_members-returns : goal.put_members-returns
put_members-returns t c =
    let ts = c.args.kinds.now in
    let n = c.args.levels in
    let e = fields_members_of ts n c.args.record.now c.args.value.now c.in-Fields.root c.in-Fields.additions (c.in-Fields.is ∙ sym (rolls-Fields c.in-Fields.root c.in-Fields.additions))
    ∙ ap₂ both
    (ap₂ (λ cs vs. list_members ts false n cs (map (known ts) vs)) (sym c.root.ensures) (sym c.deref.ensures.value))
    (ap₂ (λ cs vs. list_members ts true n cs (map (known ts) vs)) (sym c.behind.ensures) (sym c.deref-2.ensures.value)) in
    subst (λ o. PutsMembers o n c.args.writer.now c.put_components-2.result c.put_components-2.new.writer) (sym e)
    (both_then _ _ n c.put_components-2.result c.in_ok-put_components.ensures.law c.put_components.ensures.before c.put_components-2.ensures)

pub put_members-returns-in_err-put_components : goal.put_members-returns-in_err-put_components
put_members-returns-in_err-put_components t c =
    let p = err_from_is_err_and c.from_residual.result c.from_residual.ensures.1 in
    let ts = c.args.kinds.now in
    let n = c.args.levels in
    let more = list_members ts true n (behind c.args.record.now.additions) (map (known ts) c.in-Fields.additions.items) in
    let e = fields_members_of ts n c.args.record.now c.args.value.now c.in-Fields.root c.in-Fields.additions (c.in-Fields.is ∙ sym (rolls-Fields c.in-Fields.root c.in-Fields.additions))
    ∙ ap₂ (λ cs vs. both (list_members ts false n cs (map (known ts) vs)) more) (sym c.root.ensures) (sym c.deref.ensures.value) in
    record {
      law = rw (p.1, p.2) (refused_as _ ((known ts c.args.value.now).members n c.args.record.now) _ (λ none. e ∙ ap (λ o. both o more) none) c.in_err-put_components.ensures.law);
      before = c.put_components.ensures.before;
    }

pub put_members-put_components-requires : goal.put_members-put_components-requires
put_members-put_components-requires t c =
    let e = fields_levels c.args.value.now _ _ (c.in-Fields.is ∙ sym (rolls-Fields c.in-Fields.root c.in-Fields.additions))
    ∙ ap (λ vs. suc (max (deepest levels_of vs) (deepest levels_of c.in-Fields.additions.items))) (sym c.deref.ensures.value) in
    grind (arith, common_steps, e)

pub put_members-put_components-requires-2 : goal.put_members-put_components-requires-2
put_members-put_components-requires-2 t c =
    let e = fields_levels c.args.value.now _ _ (c.in-Fields.is ∙ sym (rolls-Fields c.in-Fields.root c.in-Fields.additions))
    ∙ ap (λ vs. suc (max (deepest levels_of c.in-Fields.root.items) (deepest levels_of vs))) (sym c.deref-2.ensures.value) in
    grind (arith, common_steps, e)

pub put_components-returns-then-components-values : goal.put_components-returns-then-components-values
put_components-returns-then-components-values t c = record { law = inr (refl, list_uneven c.args.kinds.now c.args.are_added c.args.levels _ _ c.if-components-values.true); before = refl }

pub put_components-loop-index-preserved : goal.put_components-loop-index-preserved
put_components-loop-index-preserved t c =
    let few : c.loop-index.index < length c.args.components.now = omega (arith, c.loop-index-test.true, c.if-components-values.false) in
    record {
      put = list_put_more c.args.kinds.now c.args.are_added c.args.levels c.loop-index.index c.args.components.now c.args.values.now _ _ c.loop-index.invariant.put few c.loop-index-test.true
          c.index-components-index.is c.index-values-index.is c.in_ok-put_component.ensures.law;
      before = c.put_component.ensures.before ∙ c.loop-index.invariant.before;
    }

pub put_components-returns-in_err-put_component : goal.put_components-returns-in_err-put_component
put_components-returns-in_err-put_component t c =
    let p = err_from_is_err_and c.from_residual.result c.from_residual.ensures.1 in
    let ts = c.args.kinds.now in
    let cs = c.args.components.now in
    let vs = c.args.values.now in
    let few : c.loop-index.index < length cs = omega (arith, c.loop-index-test.true, c.if-components-values.false) in
    record {
      law = rw (p.1, p.2) (refused_as _ (list_members ts c.args.are_added c.args.levels cs (map (known ts) vs)) _
          (list_none ts c.args.are_added c.args.levels c.loop-index.index cs vs _ _ few c.loop-index-test.true c.index-components-index.is c.index-values-index.is)
          c.in_err-put_component.ensures.law);
      before = c.put_component.ensures.before ∙ c.loop-index.invariant.before;
    }

pub put_component-returns : goal.put_component-returns
put_component-returns t c =
    let e = members_written c.args.kinds.now c.args.are_added c.args.levels c.args.component.now c.args.value.now (sym c.is_there.ensures ∙ c.if-not-is_there.false) (sym c.is_default.ensures ∙ c.if-is_default.false) in
    subst (λ o. PutsMembers o c.args.levels c.args.writer.now c.put_there.result c.put_there.new.writer) (sym e) c.put_there.ensures

pub put_component-returns-then-is_default : goal.put_component-returns-then-is_default
put_component-returns-then-is_default t c =
    let e = members_left c.args.kinds.now c.args.are_added c.args.levels c.args.component.now c.args.value.now (sym c.is_there.ensures ∙ c.if-not-is_there.false) (sym c.is_default.ensures ∙ c.if-is_default.true) in
    record { law = record { members = []; shown = e; numbers = tt; within = omega arith; tokens = sym (append-nil _) }; before = refl }

pub put_open-returns-in-Octets : goal.put_open-returns-in-Octets
put_open-returns-in-Octets t c =
    let os = c.in-Octets.octets in
    open_put c.args.kinds.now c.args.levels c.args.set.now c.args.value.now os c.put_digits.result (c.in-Octets.is ∙ sym (rolls-Octets os))
    (subst (λ o. Puts (digits_json o) c.args.levels c.args.writer.now c.put_digits.result c.put_digits.new.writer) c.as_bytes.ensures (c.put_digits.ensures c.args.levels))

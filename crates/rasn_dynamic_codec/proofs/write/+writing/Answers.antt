use Rattle.std.proofs.Common.{◌≡◌, ◌∙◌, refl, sym, ap, ap₂, rules, suc, max, true, false, map, Some, le_trans, arith}
use Rattle.std.proofs.Math.Nat.{le-max_left, le-max_right}
use Rattle.std.specs.Prelude.{count_by, is_some, not, option_map}
use Rattle.std.proofs.lemmas.Grind.{common_steps}
use Rattle.std.proofs.lemmas.Result.{err_from_is_err_and}
use Rattle.rasn_schema.specs.Forms.{always, is_size_marked, size_of}
use Rattle.rasn_schema.specs.Lists.{deepest, list_at}
use Rattle.rasn_schema.specs.Structures.{list_value, record_value}
use Rattle.rasn_schema.specs.Normal.{normals}
use Rattle.rasn_schema.specs.Schemas
use Rattle.rasn_traits.specs.Scopes.{presents_fields}
use Rattle.rasn_traits.proofs.Writing.{record_addition_refused, record_ended, record_root_refused}
use Rattle.rasn_dynamic_codec.proofs.AdditionLaws.{contents_closed, contents_refused, group_closed, group_refused, group_surplus, is_group_of, octets_refused, settled_written, value_closed, value_refused}
use Rattle.rasn_dynamic_codec.proofs.Members.{awaits_member, bags}
use Rattle.rasn_dynamic_codec.proofs.Elements.{awaits_element, before_element, after_elements, closed, element_refused, lists, next_refused, opened, unopened}
use Rattle.rasn_traits.specs.Moments.{date_at}
use Rattle.rasn_dynamic.specs.declared.values.Value.TheVariants.{rolls-Bag, rolls-Elements, rolls-Fields, rolls-Alternative}
use Rattle.rasn_dynamic.specs.Types.{behind, contained_at, grouped, in_root, is_not_required, of_size, parts_at, plain_at, record_schema, required_in, schema_at, simple_schema, alternative_counts, choice_of}
use Rattle.rasn_dynamic.specs.declared.types.Kind.TheVariants.{Simple as SimpleKind, Date, List as ListKind, SetOf, Record as RecordKind, Choice as ChoiceKind, Containing, Open as OpenKind}
use Rattle.rasn_dynamic.specs.declared.types.Presence.TheVariants.{Group}
use Rattle.rasn_schema.specs.Bags.{set_at}
use Rattle.rasn_schema.specs.Normal.{normal}
use Rattle.rasn_dynamic.specs.Values.{levels_of, slot_of, value_of}
use Rattle.rasn_dynamic_codec.proofs.Components.{additions, components, onward_ended, onward_index, onward_presented, onward_refused, onward_stands}
use Rattle.rasn_dynamic.proofs.Places.{choice_plain, contained_none, contained_there, containing_plain, containing_there, encodes_same, encodes_value, date_plain, list_plain, no_bag, no_list, no_place, no_record, nothing_written, open_plain, other_refused, other_refused_within, plain_there, record_plain, set_plain, simple_plain}
use Rattle.rasn_dynamic_codec.proofs.Presences.{absent_written, default_left, default_open, default_skipped, default_there, default_unmarked, no_other, open_written, required_there, skipped_written, stands_there, surplus_refused, there_written, unmarked_part}
use Rattle.rasn_dynamic.proofs.Trees.{bag_levels, bag_value, deepest_at, elements_levels, elements_value, fields_levels, fields_value, not_bag, not_elements, not_fields, alternative_levels, alternative_value, not_alternative}
use Rattle.rasn_dynamic_codec.proofs.Unfit.{record_counted, record_unopened, sequence_group, unmarked_none}
use Rattle.rasn_schema.specs.Choices.{one_level_in}
use Rattle.rasn_types.specs.Values.{alternative, bag_of}
use Rattle.rasn_traits.specs.Counted.{index_in, side_of}
use Rattle.rasn_dynamic_codec.proofs.Choosing.{choice_unopened, chosen, is_choice_of, no_choice, none_chosen, placed_closed, placed_refused}
use Rattle.rasn_dynamic_codec.proofs.write.+writing.Goals as goal

pub encode_elements-returns-in_err-list : goal.encode_elements-returns-in_err-list
encode_elements-returns-in_err-list g t c =
    let p = err_from_is_err_and c.from_residual.result c.from_residual.ensures.1 in
    record {
      law = rw (p.1, p.2) (unopened lists g.E.Encoder.rules g.E.Encoder.amid_elements _ _ _ levels_of value_of c.args.values.now c.args.encoder.now _ c.open_elements.new.self (rw c.new-constraints.ensures at c.in_err-list.ensures.law));
      behaves = search rules;
    }

pub encode_elements-returns-in_err-next_element_in_turn : goal.encode_elements-returns-in_err-next_element_in_turn
encode_elements-returns-in_err-next_element_in_turn g t c =
    let p = err_from_is_err_and c.from_residual-in_err-next_element_in_turn.result c.from_residual-in_err-next_element_in_turn.ensures.1 in
    record {
      law = rw (p.1, p.2) (next_refused c.loop-value.invariant _ _ c.next_element_in_turn.new.self c.loop-value-test.true c.value-item.is c.in_err-next_element_in_turn.ensures.law);
      behaves = search rules;
    }

pub encode_elements-returns-in_err-encode_value : goal.encode_elements-returns-in_err-encode_value
encode_elements-returns-in_err-encode_value g t c =
    let p = err_from_is_err_and c.from_residual-in_err-encode_value.result c.from_residual-in_err-encode_value.ensures.1 in
    record {
      law = rw (p.1, p.2) (element_refused c.loop-value.invariant _ _ _ c.encode_value.new.encoder _ c.loop-value-test.true c.value-item.is (awaits_element c.in_ok-next_element_in_turn.ensures) c.in_err-encode_value.ensures.law);
      behaves = search rules;
    }

pub encode_elements-returns : goal.encode_elements-returns
encode_elements-returns g t c =
    record {
      law = closed c.loop-value.invariant _ _ c.loop-value-test.false c.close_elements.ensures.law;
      behaves = search rules;
    }

pub encode_components-bounds-components-index : goal.encode_components-bounds-components-index
encode_components-bounds-components-index g t c = onward_index g.E.Encoder.rules (components g.E.Encoder.rules g.met.E.Encoder.lawful) c.loop-index.invariant c.loop-index-test.true

pub encode_components-returns-in_err-encode_component : goal.encode_components-returns-in_err-encode_component
encode_components-returns-in_err-encode_component g t c =
    let p = err_from_is_err_and c.from_residual.result c.from_residual.ensures.1 in
    let r = g.E.Encoder.rules in
    let m = components g.E.Encoder.rules g.met.E.Encoder.lawful in
    let i = c.loop-index.invariant in
    let l = c.loop-index-test.true in
    let w = c.in_err-encode_component.ensures (onward_stands r m i _ _ (onward_index r m i l) c.index-components-index.is l c.index-values-index.is) in
    rw (p.1, p.2) (record {
      law = onward_refused r m i _ _ (onward_index r m i l) c.index-components-index.is l c.index-values-index.is _ c.encode_component.new.encoder w.law;
      fails = w.fails;
      kept = w.kept ∙ i.kept;
    })

pub encode_components-loop-index-preserved : goal.encode_components-loop-index-preserved
encode_components-loop-index-preserved g t c =
    let r = g.E.Encoder.rules in
    let m = components g.E.Encoder.rules g.met.E.Encoder.lawful in
    let i = c.loop-index.invariant in
    let l = c.loop-index-test.true in
    let w = c.in_ok-encode_component.ensures (onward_stands r m i _ _ (onward_index r m i l) c.index-components-index.is l c.index-values-index.is) in
    onward_presented r m i _ _ (onward_index r m i l) c.index-components-index.is l c.index-values-index.is tt c.encode_component.new.encoder w.law w.kept

pub encode_components-returns : goal.encode_components-returns
encode_components-returns g t c =
    record { law = onward_ended g.E.Encoder.rules (components g.E.Encoder.rules g.met.E.Encoder.lawful) c.loop-index.invariant c.loop-index-test.false; fails = tt; kept = c.loop-index.invariant.kept }

pub encode_additions-bounds-components-index : goal.encode_additions-bounds-components-index
encode_additions-bounds-components-index g t c = onward_index g.E.Encoder.rules (additions g.E.Encoder.rules g.met.E.Encoder.lawful c.args.kinds.now) c.loop-index.invariant c.loop-index-test.true

pub encode_additions-returns-in_err-encode_addition : goal.encode_additions-returns-in_err-encode_addition
encode_additions-returns-in_err-encode_addition g t c =
    let p = err_from_is_err_and c.from_residual.result c.from_residual.ensures.1 in
    let r = g.E.Encoder.rules in
    let m = additions g.E.Encoder.rules g.met.E.Encoder.lawful c.args.kinds.now in
    let i = c.loop-index.invariant in
    let l = c.loop-index-test.true in
    let w = c.in_err-encode_addition.ensures (onward_stands r m i _ _ (onward_index r m i l) c.index-components-index.is l c.index-values-index.is) in
    rw (p.1, p.2) (record {
      law = onward_refused r m i _ _ (onward_index r m i l) c.index-components-index.is l c.index-values-index.is _ c.encode_addition.new.encoder w.law;
      fails = w.fails;
      kept = w.kept ∙ i.kept;
    })

pub encode_additions-loop-index-preserved : goal.encode_additions-loop-index-preserved
encode_additions-loop-index-preserved g t c =
    let r = g.E.Encoder.rules in
    let m = additions g.E.Encoder.rules g.met.E.Encoder.lawful c.args.kinds.now in
    let i = c.loop-index.invariant in
    let l = c.loop-index-test.true in
    let w = c.in_ok-encode_addition.ensures (onward_stands r m i _ _ (onward_index r m i l) c.index-components-index.is l c.index-values-index.is) in
    onward_presented r m i _ _ (onward_index r m i l) c.index-components-index.is l c.index-values-index.is tt c.encode_addition.new.encoder w.law w.kept

pub encode_additions-returns : goal.encode_additions-returns
encode_additions-returns g t c =
    record { law = onward_ended g.E.Encoder.rules (additions g.E.Encoder.rules g.met.E.Encoder.lawful c.args.kinds.now) c.loop-index.invariant c.loop-index-test.false; fails = tt; kept = c.loop-index.invariant.kept }

pub encode_component-returns-in-Required : goal.encode_component-returns-in-Required
encode_component-returns-in-Required g t c =
    let w = c.encode_value.ensures in
    λ q. rw c.in-Required.is (record {
      law = record { at = λ n le. required_there g.E.Encoder.rules _ c.args.encoder.now c.encode_value.new.encoder (slot_of c.args.value.now) c.encode_value.result (rw c.in-Required.is at q) (w.law.at n le) };
      fails = w.behaves.fails;
      kept = w.behaves.kept;
    })

pub encode_component-returns-in-Optional : goal.encode_component-returns-in-Optional
encode_component-returns-in-Optional g t c = λ q. rw c.in-Optional.is c.encode_optional.ensures

pub encode_optional-returns-in_err-set_presence : goal.encode_optional-returns-in_err-set_presence
encode_optional-returns-in_err-set_presence g t c =
    let p = err_from_is_err_and c.from_residual.result c.from_residual.ensures.1 in
    rw (p.1, p.2) (record {
      law = record { at = λ n le. unmarked_part g.E.Encoder.rules _ c.args.encoder.now c.set_presence.new.self c.set_presence.new.self (slot_of c.args.value.now) c.is_there-there.result _ c.is_there-there.ensures c.in_err-set_presence.ensures.law };
      fails = c.in_err-set_presence.ensures.behaves.fails;
      kept = c.in_err-set_presence.ensures.behaves.kept;
    })

pub encode_optional-returns-then-not-there : goal.encode_optional-returns-then-not-there
encode_optional-returns-then-not-there g t c = record {
  law = record { at = λ n le. absent_written g.E.Encoder.rules _ c.args.encoder.now c.set_presence.new.self (slot_of c.args.value.now) c.is_there-there.result c.if-not-there.true c.is_there-there.ensures c.in_ok-set_presence.ensures.law };
  fails = tt;
  kept = c.in_ok-set_presence.ensures.behaves.kept;
}

pub encode_optional-returns : goal.encode_optional-returns
encode_optional-returns g t c = record {
  law = record { at = λ n le. there_written g.E.Encoder.rules g.met.E.Encoder.lawful _ c.args.encoder.now c.set_presence.new.self c.encode_value.new.encoder (slot_of c.args.value.now) c.is_there-there.result c.encode_value.result c.if-not-there.false c.is_there-there.ensures c.in_ok-set_presence.ensures.law (c.encode_value.ensures.law.at n le) };
  fails = c.encode_value.ensures.behaves.fails;
  kept = c.encode_value.ensures.behaves.kept ∙ c.in_ok-set_presence.ensures.behaves.kept;
}

pub encode_addition-returns-then-not-is_there : goal.encode_addition-returns-then-not-is_there
encode_addition-returns-then-not-is_there g t c =
    let w = c.skip_addition.ensures in
    λ q. record {
      law = record { at = λ n le. skipped_written g.E.Encoder.rules (grouped c.args.kinds.now c.args.component.now) c.args.component.now.presence _ c.args.encoder.now c.skip_addition.new.self (slot_of c.args.value.now) c.skip_addition.result (sym c.if-not-is_there.true ∙ c.is_there.ensures) q w.law };
      fails = w.behaves.fails;
      kept = w.behaves.kept;
    }

pub encode_open-returns-in_err-outside : goal.encode_open-returns-in_err-outside
encode_open-returns-in_err-outside g t c =
    let p = err_from_is_err_and c.from_residual.result c.from_residual.ensures.1 in
    let o = c.in_err-outside.ensures in
    rw (p.1, p.2) (record {
      law = record { at = λ n le. surplus_refused g.E.Encoder.rules _ _ c.args.encoder.now c.open_addition.new.self _ o.law };
      fails = o.behaves.fails;
      kept = o.behaves.kept;
    })

pub encode_open-returns-in_err-encode_value : goal.encode_open-returns-in_err-encode_value
encode_open-returns-in_err-encode_value g t c =
    let p = err_from_is_err_and c.from_residual-in_err-encode_value.result c.from_residual-in_err-encode_value.ensures.1 in
    let o = c.in_ok-outside.ensures in
    let w = c.in_err-encode_value.ensures in
    rw (p.1, p.2) (record {
      law = record { at = λ n le. value_refused g.E.Encoder.rules g.met.E.Encoder.lawful _ _ c.args.encoder.now c.open_addition.new.self c.encode_value.new.encoder c.encode_value.new.encoder _ o.law.1 (w.law.at n le) };
      fails = w.behaves.fails;
      kept = w.behaves.kept ∙ o.behaves.kept;
    })

pub encode_open-returns : goal.encode_open-returns
encode_open-returns g t c =
    let o = c.in_ok-outside.ensures in
    let w = c.in_ok-encode_value.ensures in
    let d = c.close_addition.ensures in
    record {
      law = record { at = λ n le. value_closed g.E.Encoder.rules g.met.E.Encoder.lawful g.E.Encoder.opens_addition _ _ c.args.encoder.now c.open_addition.new.self c.encode_value.new.encoder _ o.law.0 (w.law.at n le) _ _ d };
      fails = d.behaves.fails;
      kept = d.behaves.kept ∙ w.behaves.kept ∙ o.behaves.kept;
    }

pub encode_list-returns-in-Elements : goal.encode_list-returns-in-Elements
encode_list-returns-in-Elements g t c =
    let v = c.args.value.now in
    let e = c.in-Elements.is ∙ sym (rolls-Elements c.in-Elements.values) in
    encodes_value _ (levels_of v) _ (value_of v) _ _ _ _ (elements_levels v _ e ∙ ap (λ vs. suc (deepest levels_of vs)) (sym c.deref.ensures.value)) (elements_value v _ e ∙ ap (λ vs. list_value (map value_of vs)) (sym c.deref.ensures.value)) c.encode_elements.ensures

pub encode_list-returns-in_default : goal.encode_list-returns-in_default
encode_list-returns-in_default g t c =
    let v = c.args.value.now in
    let d = of_size c.args.size.now in
    other_refused_within (list_at (schema_at c.args.kinds.now c.args.of) (size_of d) (is_size_marked d)) (levels_of v) (value_of v) _ _ _ c.refuse_other.ensures (no_list _ _ _ v (not_elements v c.in_default.not-Elements))

pub encode_record-returns-in_default : goal.encode_record-returns-in_default
encode_record-returns-in_default g t c =
    let v = c.args.value.now in
    let r = c.args.sequence.now in
    other_refused_within (record_schema c.args.kinds.now r) (levels_of v) (value_of v) _ _ _ c.refuse_other.ensures
    (no_record (parts_at in_root c.args.kinds.now r.root.items) (parts_at (grouped c.args.kinds.now) c.args.kinds.now (behind r.additions)) (is_some r.additions) v (not_fields v c.in_default.not-Fields))

pub encode_value-returns-in-None : goal.encode_value-returns-in-None
encode_value-returns-in-None g t c =
    let v = c.args.value.now in
    let ts = c.args.kinds.now in
    other_refused (schema_at ts c.args.place) (levels_of v) (value_of v) _ _ _ c.refuse_other.ensures (no_place ts c.args.place (value_of v) (sym c.kind_at.ensures ∙ ap (option_map (λ k. k.now)) c.in-None.is))

pub encode_list-encode_elements-requires : goal.encode_list-encode_elements-requires
encode_list-encode_elements-requires g t c =
    let v = c.args.value.now in
    let e = elements_levels v _ (c.in-Elements.is ∙ sym (rolls-Elements c.in-Elements.values)) ∙ ap (λ vs. suc (deepest levels_of vs)) (sym c.deref.ensures.value) in
    grind (arith, common_steps, e)

pub encode_elements-encode_value-requires : goal.encode_elements-encode_value-requires
encode_elements-encode_value-requires g t c = grind (arith, common_steps, deepest_at c.args.values.now _ _ c.loop-value-test.true c.value-item.is)

pub encode_elements-next_element_in_turn-requires : goal.encode_elements-next_element_in_turn-requires
encode_elements-next_element_in_turn-requires g t c = record { in_turn = before_element c.loop-value.invariant _ c.loop-value-test.true c.value-item.is }

pub encode_elements-close_elements-requires : goal.encode_elements-close_elements-requires
encode_elements-close_elements-requires g t c = record { in_turn = after_elements c.loop-value.invariant c.loop-value-test.false }

pub encode_components-encode_component-requires : goal.encode_components-encode_component-requires
encode_components-encode_component-requires g t c = grind (arith, common_steps, deepest_at c.args.values.now _ _ c.loop-index-test.true c.index-values-index.is)

pub encode_additions-encode_addition-requires : goal.encode_additions-encode_addition-requires
encode_additions-encode_addition-requires g t c = grind (arith, common_steps, deepest_at c.args.values.now _ _ c.loop-index-test.true c.index-values-index.is)

pub encode_choice-encode_chosen-requires : goal.encode_choice-encode_chosen-requires
encode_choice-encode_chosen-requires g t c =
    let v = c.args.value.now in
    let e = alternative_levels v _ _ (c.in-Alternative.is ∙ sym (rolls-Alternative c.in-Alternative.place c.in-Alternative.chosen)) ∙ ap (λ u. suc (levels_of u)) (sym c.deref.ensures) in
    grind (arith, common_steps, e)

pub encode_choice-returns-in-Alternative : goal.encode_choice-returns-in-Alternative
encode_choice-returns-in-Alternative g t c =
    let v = c.args.value.now in
    let e = c.in-Alternative.is ∙ sym (rolls-Alternative c.in-Alternative.place c.in-Alternative.chosen) in
    encodes_value _ (levels_of v) _ (value_of v) _ _ _ _ (alternative_levels v _ _ e ∙ ap (λ u. suc (levels_of u)) (sym c.deref.ensures)) (alternative_value v _ _ e ∙ ap (λ u. alternative (side_of c.in-Alternative.place) (index_in c.in-Alternative.place) (value_of u)) (sym c.deref.ensures)) c.encode_chosen.ensures

pub encode_choice-returns-in_default : goal.encode_choice-returns-in_default
encode_choice-returns-in_default g t c =
    let v = c.args.value.now in
    let ts = c.args.kinds.now in
    let d = c.args.choice.now in
    other_refused_within (one_level_in (choice_of ts d)) (levels_of v) (value_of v) _ _ _ c.refuse_other.ensures (no_choice ts d v (not_alternative v c.in_default.not-Alternative))

pub encode_chosen-returns-in_err-at : goal.encode_chosen-returns-in_err-at
encode_chosen-returns-in_err-at g t c =
    let r = err_from_is_err_and c.from_residual.result c.from_residual.ensures.1 in
    let v = c.args.value.now in
    let ts = c.args.kinds.now in
    let d = c.args.choice.now in
    let p = c.args.place in
    let q = c.in_err-at.ensures in
    rw (r.1, r.2) (record {
      law = choice_unopened g.E.Encoder.rules (choice_of ts d) (schema_at ts q.0.of) (side_of p) (index_in p) (chosen ts d p q.0 q.1) (value_of v) (levels_of v) (alternative_counts d) (is_choice_of ts d) c.args.encoder.now c.open_chosen.new.encoder _ q.2.law;
      behaves = record { again = q.2.behaves.again; fails = q.2.behaves.fails; kept = q.2.behaves.kept };
    })

pub encode_chosen-returns-in_default : goal.encode_chosen-returns-in_default
encode_chosen-returns-in_default g t c =
    let v = c.args.value.now in
    let ts = c.args.kinds.now in
    let d = c.args.choice.now in
    let p = c.args.place in
    let q = rw c.in_default.is at c.in_ok-at.ensures in
    other_refused (one_level_in (choice_of ts d)) (suc (levels_of v)) (alternative (side_of p) (index_in p) (value_of v)) _ _ _ (rw q.1 at c.refuse_other.ensures) (none_chosen ts d p (value_of v) q.0)

pub encode_chosen-returns-in_err-encode_value : goal.encode_chosen-returns-in_err-encode_value
encode_chosen-returns-in_err-encode_value g t c =
    let r = err_from_is_err_and c.from_residual-in_err-encode_value.result c.from_residual-in_err-encode_value.ensures.1 in
    let v = c.args.value.now in
    let ts = c.args.kinds.now in
    let d = c.args.choice.now in
    let p = c.args.place in
    let q = rw c.in-Some.is at c.in_ok-at.ensures in
    let o = q.3 in
    let w = rw q.2 at c.in_err-encode_value.ensures in
    rw (r.1, r.2) (record {
      law = placed_refused g.E.Encoder.rules (choice_of ts d) (schema_at ts q.0.of) (side_of p) (index_in p) (chosen ts d p q.0 q.1) (value_of v) (levels_of v) c.args.encoder.now c.open_chosen.new.encoder c.encode_value.new.encoder c.encode_value.new.encoder _ (λ n. (o.law (choice_of ts d n) (is_choice_of ts d n)).1) w.law;
      behaves = record { again = λ z. absurd (o.behaves.again z); fails = w.behaves.fails; kept = w.behaves.kept ∙ o.behaves.kept };
    })

pub encode_chosen-returns : goal.encode_chosen-returns
encode_chosen-returns g t c =
    let v = c.args.value.now in
    let ts = c.args.kinds.now in
    let d = c.args.choice.now in
    let p = c.args.place in
    let q = rw c.in-Some.is at c.in_ok-at.ensures in
    let o = q.3 in
    let w = rw q.2 at c.in_ok-encode_value.ensures in
    let e = c.close_alternative.ensures in
    record {
      law = placed_closed g.E.Encoder.rules (choice_of ts d) (schema_at ts q.0.of) (side_of p) (index_in p) (chosen ts d p q.0 q.1) (value_of v) (levels_of v) g.E.Encoder.opens_alternative c.args.encoder.now c.open_chosen.new.encoder c.encode_value.new.encoder _ tt (λ n. (o.law (choice_of ts d n) (is_choice_of ts d n)).0) w.law c.close_alternative.result c.close_alternative.new.self e;
      behaves = record { again = λ z. absurd (o.behaves.again z); fails = e.behaves.fails; kept = e.behaves.kept ∙ w.behaves.kept ∙ o.behaves.kept };
    }

pub encode_kind-returns-in-Containing : goal.encode_kind-returns-in-Containing
encode_kind-returns-in-Containing g t c =
    let v = c.args.value.now in
    let ts = c.args.kinds.now in
    encodes_same (schema_at ts c.args.place) (λ n. Schemas.containing (contained_at ts c.in-Containing.of n)) (levels_of v) (value_of v) _ _ _ (containing_there ts c.args.place c.in-Containing.of (c.requires ∙ ap Some c.in-Containing.is)) c.encode_containing.ensures

pub encode_kind-returns-in_default : goal.encode_kind-returns-in_default
encode_kind-returns-in_default g t c =
    let v = c.args.value.now in
    let ts = c.args.kinds.now in
    encodes_same (schema_at ts c.args.place) (plain_at ts c.args.kind.now) (levels_of v) (value_of v) _ _ _ (plain_there ts c.args.place c.args.kind.now c.requires c.in_default.not-Containing) c.encode_plain.ensures

pub encode_plain-returns-in-Simple : goal.encode_plain-returns-in-Simple
encode_plain-returns-in-Simple g t c =
    let v = c.args.value.now in
    let ts = c.args.kinds.now in
    rw c.in-Simple.is (encodes_same (plain_at ts (SimpleKind c.in-Simple.simple)) (always (simple_schema c.in-Simple.simple)) (levels_of v) (value_of v) _ _ _ (simple_plain ts c.in-Simple.simple) c.encode_simple.ensures)

pub encode_plain-returns-in-Date : goal.encode_plain-returns-in-Date
encode_plain-returns-in-Date g t c =
    let v = c.args.value.now in
    let ts = c.args.kinds.now in
    rw c.in-Date.is (encodes_same (plain_at ts Date) date_at (levels_of v) (value_of v) _ _ _ (date_plain ts) c.encode_date.ensures)

pub encode_plain-returns-in-List : goal.encode_plain-returns-in-List
encode_plain-returns-in-List g t c =
    let v = c.args.value.now in
    let ts = c.args.kinds.now in
    rw c.in-List.is (encodes_same (plain_at ts (ListKind c.in-List.of c.in-List.size)) (list_at (schema_at ts c.in-List.of) (size_of (of_size c.in-List.size)) (is_size_marked (of_size c.in-List.size))) (levels_of v) (value_of v) _ _ _ (list_plain ts c.in-List.of c.in-List.size) c.encode_list.ensures)

pub encode_plain-returns-in-SetOf : goal.encode_plain-returns-in-SetOf
encode_plain-returns-in-SetOf g t c =
    let v = c.args.value.now in
    let ts = c.args.kinds.now in
    rw c.in-SetOf.is (encodes_same (plain_at ts (SetOf c.in-SetOf.of c.in-SetOf.size)) (set_at (schema_at ts c.in-SetOf.of) (size_of (of_size c.in-SetOf.size)) (is_size_marked (of_size c.in-SetOf.size))) (levels_of v) (value_of v) _ _ _ (set_plain ts c.in-SetOf.of c.in-SetOf.size) c.encode_set_of.ensures)

pub encode_plain-returns-in-Record : goal.encode_plain-returns-in-Record
encode_plain-returns-in-Record g t c =
    let v = c.args.value.now in
    let ts = c.args.kinds.now in
    rw c.in-Record.is (encodes_same (plain_at ts (RecordKind c.in-Record.record)) (record_schema ts c.in-Record.record) (levels_of v) (value_of v) _ _ _ (record_plain ts c.in-Record.record) c.encode_record.ensures)

pub encode_plain-returns-in-Choice : goal.encode_plain-returns-in-Choice
encode_plain-returns-in-Choice g t c =
    let v = c.args.value.now in
    let ts = c.args.kinds.now in
    rw c.in-Choice.is (encodes_same (plain_at ts (ChoiceKind c.in-Choice.choice)) (one_level_in (choice_of ts c.in-Choice.choice)) (levels_of v) (value_of v) _ _ _ (choice_plain ts c.in-Choice.choice) c.encode_choice.ensures)

pub encode_plain-returns-in-Containing : goal.encode_plain-returns-in-Containing
encode_plain-returns-in-Containing g t c =
    let v = c.args.value.now in
    let ts = c.args.kinds.now in
    rw c.in-Containing.is (encodes_same (plain_at ts (Containing c.in-Containing.field-0)) (always Schemas.real) (levels_of v) (value_of v) _ _ _ (containing_plain ts c.in-Containing.field-0) (other_refused (always Schemas.real) (levels_of v) (value_of v) _ _ _ c.refuse_other.ensures (λ n. refl)))

pub encode_plain-returns-in-Open : goal.encode_plain-returns-in-Open
encode_plain-returns-in-Open g t c =
    let v = c.args.value.now in
    let ts = c.args.kinds.now in
    rw c.in-Open.is (encodes_same (plain_at ts (OpenKind c.in-Open.field-0)) (always Schemas.any) (levels_of v) (value_of v) _ _ _ (open_plain ts c.in-Open.field-0) c.encode_any.ensures)

pub encode_contained-returns-in-None : goal.encode_contained-returns-in-None
encode_contained-returns-in-None g t c =
    let v = c.args.value.now in
    let ts = c.args.kinds.now in
    encodes_same (contained_at ts c.args.place) (always Schemas.real) (levels_of v) (value_of v) _ _ _ (contained_none ts c.args.place (sym c.kind_at.ensures ∙ ap (option_map (λ k. k.now)) c.in-None.is)) (other_refused (always Schemas.real) (levels_of v) (value_of v) _ _ _ c.refuse_other.ensures (λ n. refl))

pub encode_contained-returns-in-Some : goal.encode_contained-returns-in-Some
encode_contained-returns-in-Some g t c =
    let v = c.args.value.now in
    let ts = c.args.kinds.now in
    let k = c.in-Some.kind.now in
    encodes_same (contained_at ts c.args.place) (plain_at ts k) (levels_of v) (value_of v) _ _ _ (contained_there ts c.args.place k (sym c.kind_at.ensures ∙ ap (option_map (λ k. k.now)) c.in-Some.is)) c.encode_plain.ensures

pub encode_containing-returns-in_err-outside : goal.encode_containing-returns-in_err-outside
encode_containing-returns-in_err-outside g t c =
    let p = err_from_is_err_and c.from_residual.result c.from_residual.ensures.1 in
    let o = c.in_err-outside.ensures in
    rw (p.1, p.2) (record {
      law = record { at = λ n le. octets_refused g.E.Encoder.rules _ _ c.args.encoder.now c.open_contents.new.self _ o.law };
      behaves = record { again = o.behaves.again; fails = o.behaves.fails; kept = o.behaves.kept };
    })

pub encode_containing-returns-in_err-encode_contained : goal.encode_containing-returns-in_err-encode_contained
encode_containing-returns-in_err-encode_contained g t c =
    let p = err_from_is_err_and c.from_residual-in_err-encode_contained.result c.from_residual-in_err-encode_contained.ensures.1 in
    let o = c.in_ok-outside.ensures in
    let w = c.in_err-encode_contained.ensures in
    rw (p.1, p.2) (record {
      law = record { at = λ n le. contents_refused g.E.Encoder.rules _ (value_of c.args.value.now) c.args.encoder.now c.open_contents.new.self c.encode_contained.new.encoder c.encode_contained.new.encoder _ o.law.1 (w.law.at n le) };
      behaves = record { again = λ q. absurd (o.behaves.again q); fails = w.behaves.fails; kept = w.behaves.kept ∙ o.behaves.kept };
    })

pub encode_containing-returns : goal.encode_containing-returns
encode_containing-returns g t c =
    let o = c.in_ok-outside.ensures in
    let w = c.in_ok-encode_contained.ensures in
    let d = c.close_contents.ensures in
    record {
      law = record { at = λ n le. contents_closed g.E.Encoder.rules g.E.Encoder.opens_contents _ (value_of c.args.value.now) c.args.encoder.now c.open_contents.new.self c.encode_contained.new.encoder _ o.law.0 (w.law.at n le) _ _ d };
      behaves = record { again = λ q. absurd (o.behaves.again q); fails = d.behaves.fails; kept = d.behaves.kept ∙ w.behaves.kept ∙ o.behaves.kept };
    }

pub encode_set_of-returns-in-Bag : goal.encode_set_of-returns-in-Bag
encode_set_of-returns-in-Bag g t c =
    let v = c.args.value.now in
    let e = c.in-Bag.is ∙ sym (rolls-Bag c.in-Bag.values) in
    encodes_value _ (levels_of v) _ (value_of v) _ _ _ _ (bag_levels v _ e ∙ ap (λ vs. suc (deepest levels_of vs)) (sym c.deref.ensures.value)) (bag_value v _ e ∙ ap (λ vs. bag_of (map value_of vs)) (sym c.deref.ensures.value)) c.encode_members.ensures

pub encode_set_of-returns-in_default : goal.encode_set_of-returns-in_default
encode_set_of-returns-in_default g t c =
    let v = c.args.value.now in
    let d = of_size c.args.size.now in
    other_refused_within (set_at (schema_at c.args.kinds.now c.args.of) (size_of d) (is_size_marked d)) (levels_of v) (value_of v) _ _ _ c.refuse_other.ensures (no_bag _ _ _ v (not_bag v c.in_default.not-Bag))

pub encode_set_of-encode_members-requires : goal.encode_set_of-encode_members-requires
encode_set_of-encode_members-requires g t c =
    let v = c.args.value.now in
    let e = bag_levels v _ (c.in-Bag.is ∙ sym (rolls-Bag c.in-Bag.values)) ∙ ap (λ vs. suc (deepest levels_of vs)) (sym c.deref.ensures.value) in
    grind (arith, common_steps, e)

pub encode_members-encode_value-requires : goal.encode_members-encode_value-requires
encode_members-encode_value-requires g t c = grind (arith, common_steps, deepest_at c.args.values.now _ _ c.loop-value-test.true c.value-item.is)

pub encode_members-returns-in_err-bag : goal.encode_members-returns-in_err-bag
encode_members-returns-in_err-bag g t c =
    let p = err_from_is_err_and c.from_residual.result c.from_residual.ensures.1 in
    record {
      law = rw (p.1, p.2) (unopened bags g.E.Encoder.rules g.E.Encoder.amid_members _ _ _ levels_of value_of c.args.values.now c.args.encoder.now _ c.open_members.new.self (rw c.new-constraints.ensures at c.in_err-bag.ensures.law));
      behaves = search rules;
    }

pub encode_members-returns-in_err-next_member_in_turn : goal.encode_members-returns-in_err-next_member_in_turn
encode_members-returns-in_err-next_member_in_turn g t c =
    let p = err_from_is_err_and c.from_residual-in_err-next_member_in_turn.result c.from_residual-in_err-next_member_in_turn.ensures.1 in
    record {
      law = rw (p.1, p.2) (next_refused c.loop-value.invariant _ _ c.next_member_in_turn.new.self c.loop-value-test.true c.value-item.is c.in_err-next_member_in_turn.ensures.law);
      behaves = search rules;
    }

pub encode_members-returns-in_err-encode_value : goal.encode_members-returns-in_err-encode_value
encode_members-returns-in_err-encode_value g t c =
    let p = err_from_is_err_and c.from_residual-in_err-encode_value.result c.from_residual-in_err-encode_value.ensures.1 in
    record {
      law = rw (p.1, p.2) (element_refused c.loop-value.invariant _ _ _ c.encode_value.new.encoder _ c.loop-value-test.true c.value-item.is (awaits_member c.in_ok-next_member_in_turn.ensures) c.in_err-encode_value.ensures.law);
      behaves = search rules;
    }

pub encode_members-returns : goal.encode_members-returns
encode_members-returns g t c =
    record {
      law = closed c.loop-value.invariant _ _ c.loop-value-test.false c.close_members.ensures.law;
      behaves = search rules;
    }

pub encode_members-next_member_in_turn-requires : goal.encode_members-next_member_in_turn-requires
encode_members-next_member_in_turn-requires g t c = record { in_turn = before_element c.loop-value.invariant _ c.loop-value-test.true c.value-item.is }

pub encode_members-close_members-requires : goal.encode_members-close_members-requires
encode_members-close_members-requires g t c = record { in_turn = after_elements c.loop-value.invariant c.loop-value-test.false }

pub encode_component-returns-in-Group : goal.encode_component-returns-in-Group
encode_component-returns-in-Group g t c = λ q. rw c.in-Group.is c.encode_optional-in-Group.ensures

pub encode_addition-returns-in-Group : goal.encode_addition-returns-in-Group
encode_addition-returns-in-Group g t c = λ q. rw c.in-Group.is (c.encode_group.ensures (sym c.is_there.ensures ∙ c.if-not-is_there.false))

pub encode_addition-returns-in_default : goal.encode_addition-returns-in_default
encode_addition-returns-in_default g t c =
    let w = c.encode_open.ensures in
    let b = grouped c.args.kinds.now c.args.component.now in
    λ q. record {
      law = record { at = λ n le. open_written g.E.Encoder.rules b c.args.component.now.presence _ c.args.encoder.now c.encode_open.new.encoder (slot_of c.args.value.now) c.encode_open.result (no_other b c.args.component.now.presence c.in_default.not-Group c.in_default.not-Default) (sym c.if-not-is_there.false ∙ c.is_there.ensures) (w.law.at n le) };
      fails = w.fails;
      kept = w.kept;
    }

pub encode_group-returns-in-Some : goal.encode_group-returns-in-Some
encode_group-returns-in-Some g t c =
    let ts = c.args.kinds.now in
    let e = sym c.required_in.ensures ∙ c.in-Some.is in
    let w = c.encode_group_of.ensures (sequence_group ts c.args.place c.in-Some.has_required e) in
    λ q. rw e (record {
      law = record { at = λ n le. settled_written g.E.Encoder.rules _ c.args.encoder.now c.encode_group_of.new.encoder (slot_of c.args.value.now) c.encode_group_of.result q (w.law.at n le) };
      fails = w.fails;
      kept = w.kept;
    })

pub encode_group-returns-in-None : goal.encode_group-returns-in-None
encode_group-returns-in-None g t c =
    let w = c.encode_open.ensures in
    let e = sym c.required_in.ensures ∙ c.in-None.is in
    λ q. rw e (record {
      law = record { at = λ n le. open_written g.E.Encoder.rules false Group _ c.args.encoder.now c.encode_open.new.encoder (slot_of c.args.value.now) c.encode_open.result refl (sym q) (w.law.at n le) };
      fails = w.fails;
      kept = w.kept;
    })

pub encode_group_of-returns-in_err-outside : goal.encode_group_of-returns-in_err-outside
encode_group_of-returns-in_err-outside g t c =
    let p = err_from_is_err_and c.from_residual.result c.from_residual.ensures.1 in
    let o = c.in_err-outside.ensures in
    λ q. rw (p.1, p.2) (record {
      law = record { at = λ n le. group_surplus g.E.Encoder.rules g.met.E.Encoder.lawful _ _ c.args.encoder.now c.open_addition.new.self _ o.law };
      fails = o.behaves.fails;
      kept = o.behaves.kept;
    })

pub encode_group_of-returns-in_err-encode_value : goal.encode_group_of-returns-in_err-encode_value
encode_group_of-returns-in_err-encode_value g t c =
    let p = err_from_is_err_and c.from_residual-in_err-encode_value.result c.from_residual-in_err-encode_value.ensures.1 in
    let o = c.in_ok-outside.ensures in
    let w = c.in_err-encode_value.ensures in
    λ q. rw (p.1, p.2) (record {
      law = record { at = λ n le. group_refused g.E.Encoder.rules g.met.E.Encoder.lawful _ _ c.args.encoder.now c.open_addition.new.self c.encode_value.new.encoder c.encode_value.new.encoder _ (is_group_of c.args.has_required _ (q n)) o.law.1 (w.law.at n le) };
      fails = w.behaves.fails;
      kept = w.behaves.kept ∙ o.behaves.kept;
    })

pub encode_group_of-returns : goal.encode_group_of-returns
encode_group_of-returns g t c =
    let o = c.in_ok-outside.ensures in
    let w = c.in_ok-encode_value.ensures in
    let s = schema_at c.args.kinds.now c.args.place in
    let v = value_of c.args.value.now in
    λ q.
    let d = c.close_group_of.ensures.closed s q in
    record {
      law = record { at = λ n le. group_closed g.E.Encoder.rules g.met.E.Encoder.lawful (s n) _ c.args.encoder.now c.close_group_of.result c.close_group_of.new.self (d.law c.args.encoder.now c.open_addition.new.self n (normal (s n) v) o.law.0 (w.law.at n le)) };
      fails = d.behaves.fails;
      kept = d.behaves.kept ∙ w.behaves.kept ∙ o.behaves.kept;
    }

pub encode_fields-returns-in_err-outside : goal.encode_fields-returns-in_err-outside
encode_fields-returns-in_err-outside g t c =
    let p = err_from_is_err_and c.from_residual.result c.from_residual.ensures.1 in
    let ts = c.args.kinds.now in
    let r = c.args.sequence.now in
    let ps = parts_at in_root ts r.root.items in
    let qs = parts_at (grouped ts) ts (behind r.additions) in
    let vs = c.args.root_values.now in
    let ws = c.args.added_values.now in
    let k = record_counted ts r c.presence_bit_count-bits.result c.added_count-count.result (c.presence_bit_count-bits.ensures ∙ ap (λ cs. count_by (λ d. is_not_required d.presence) cs) c.root-components.ensures) c.added_count-count.ensures in
    let o = c.in_err-outside.ensures.opened ps (is_some r.additions) qs k in
    rw (p.1, p.2) (record {
      law = record_unopened g.E.Encoder.rules ps (is_some r.additions) qs _ _ c.args.encoder.now c.open_fields_of.new.self _ o.law;
      behaves = record { again = o.behaves.again; fails = o.behaves.fails; kept = o.behaves.kept };
    })

pub encode_fields-returns-in_err-encode_components : goal.encode_fields-returns-in_err-encode_components
encode_fields-returns-in_err-encode_components g t c =
    let p = err_from_is_err_and c.from_residual-in_err-encode_components.result c.from_residual-in_err-encode_components.ensures.1 in
    let ts = c.args.kinds.now in
    let r = c.args.sequence.now in
    let ps = parts_at in_root ts r.root.items in
    let qs = parts_at (grouped ts) ts (behind r.additions) in
    let vs = c.args.root_values.now in
    let ws = c.args.added_values.now in
    let k = record_counted ts r c.presence_bit_count-bits.result c.added_count-count.result (c.presence_bit_count-bits.ensures ∙ ap (λ cs. count_by (λ d. is_not_required d.presence) cs) c.root-components.ensures) c.added_count-count.ensures in
    let o = c.in_ok-outside.ensures.opened ps (is_some r.additions) qs k in
    let w = rw c.root-components.ensures at c.in_err-encode_components.ensures in
    rw (p.1, p.2) (record {
      law = record_root_refused g.E.Encoder.rules ps (is_some r.additions) qs (map slot_of vs) (map slot_of ws) _ c.args.encoder.now c.open_fields_of.new.self c.encode_components.new.encoder c.encode_components.new.encoder _ (λ n. (o.law n).1)
          (λ n le. w.law.at n (le_trans (le-max_left (deepest levels_of vs) (deepest levels_of ws)) le));
      behaves = record { again = λ q. absurd (o.behaves.again q); fails = w.fails; kept = w.kept ∙ o.behaves.kept };
    })

pub encode_fields-returns-in_err-encode_additions : goal.encode_fields-returns-in_err-encode_additions
encode_fields-returns-in_err-encode_additions g t c =
    let p = err_from_is_err_and c.from_residual-in_err-encode_additions.result c.from_residual-in_err-encode_additions.ensures.1 in
    let ts = c.args.kinds.now in
    let r = c.args.sequence.now in
    let ps = parts_at in_root ts r.root.items in
    let qs = parts_at (grouped ts) ts (behind r.additions) in
    let vs = c.args.root_values.now in
    let ws = c.args.added_values.now in
    let k = record_counted ts r c.presence_bit_count-bits.result c.added_count-count.result (c.presence_bit_count-bits.ensures ∙ ap (λ cs. count_by (λ d. is_not_required d.presence) cs) c.root-components.ensures) c.added_count-count.ensures in
    let o = c.in_ok-outside.ensures.opened ps (is_some r.additions) qs k in
    let w = rw c.root-components.ensures at c.in_ok-encode_components.ensures in
    let a = rw c.behind-additions.ensures at c.in_err-encode_additions.ensures in
    rw (p.1, p.2) (record {
      law = record_addition_refused g.E.Encoder.rules g.met.E.Encoder.lawful ps (is_some r.additions) qs (map slot_of vs) (map slot_of ws) _ c.args.encoder.now c.open_fields_of.new.self c.encode_components.new.encoder c.encode_additions.new.encoder c.encode_additions.new.encoder _ (λ n. (o.law n).1)
          (λ n le. w.law.at n (le_trans (le-max_left (deepest levels_of vs) (deepest levels_of ws)) le)) (λ n le. a.law.at n (le_trans (le-max_right (deepest levels_of vs) (deepest levels_of ws)) le));
      behaves = record { again = λ q. absurd (o.behaves.again q); fails = a.fails; kept = a.kept ∙ w.kept ∙ o.behaves.kept };
    })

pub encode_fields-returns : goal.encode_fields-returns
encode_fields-returns g t c =
    let ts = c.args.kinds.now in
    let r = c.args.sequence.now in
    let ps = parts_at in_root ts r.root.items in
    let qs = parts_at (grouped ts) ts (behind r.additions) in
    let vs = c.args.root_values.now in
    let ws = c.args.added_values.now in
    let k = record_counted ts r c.presence_bit_count-bits.result c.added_count-count.result (c.presence_bit_count-bits.ensures ∙ ap (λ cs. count_by (λ d. is_not_required d.presence) cs) c.root-components.ensures) c.added_count-count.ensures in
    let o = c.in_ok-outside.ensures.opened ps (is_some r.additions) qs k in
    let w = rw c.root-components.ensures at c.in_ok-encode_components.ensures in
    let a = rw c.behind-additions.ensures at c.in_ok-encode_additions.ensures in
    let d = c.close_fields_of.ensures.closed ps (is_some r.additions) qs (unmarked_none ts r.additions) in
    record {
      law = record_ended g.E.Encoder.rules g.E.Encoder.opens_fields ps (is_some r.additions) qs (map slot_of vs) (map slot_of ws) _ c.args.encoder.now c.open_fields_of.new.self c.encode_components.new.encoder c.encode_additions.new.encoder _ (λ n. (o.law n).0)
          (λ n le. w.law.at n (le_trans (le-max_left (deepest levels_of vs) (deepest levels_of ws)) le)) (λ n le. a.law.at n (le_trans (le-max_right (deepest levels_of vs) (deepest levels_of ws)) le)) c.close_fields_of.result c.close_fields_of.new.self d;
      behaves = record { again = λ q. absurd (o.behaves.again q); fails = d.behaves.fails; kept = d.behaves.kept ∙ a.kept ∙ w.kept ∙ o.behaves.kept };
    }

pub encode_fields-close_fields_of-requires : goal.encode_fields-close_fields_of-requires
encode_fields-close_fields_of-requires g t c =
    let ts = c.args.kinds.now in
    let r = c.args.sequence.now in
    let ps = parts_at in_root ts r.root.items in
    let qs = parts_at (grouped ts) ts (behind r.additions) in
    let vs = c.args.root_values.now in
    let ws = c.args.added_values.now in
    let k = record_counted ts r c.presence_bit_count-bits.result c.added_count-count.result (c.presence_bit_count-bits.ensures ∙ ap (λ cs. count_by (λ d. is_not_required d.presence) cs) c.root-components.ensures) c.added_count-count.ensures in
    let o = c.in_ok-outside.ensures.opened ps (is_some r.additions) qs k in
    let w = rw c.root-components.ensures at c.in_ok-encode_components.ensures in
    let a = rw c.behind-additions.ensures at c.in_ok-encode_additions.ensures in
    let l = max (deepest levels_of vs) (deepest levels_of ws) in
    record {
      in_turn = record {
        parts = ps;
        marker = is_some r.additions;
        additions = qs;
        in_turn = record {
          before = c.args.encoder.now;
          inside = c.open_fields_of.new.self;
          levels = l;
          root = normals (ps l) (map slot_of vs);
          added = normals (qs l) (map slot_of ws);
          opened = (o.law l).0;
          presented = presents_fields {m = c.encode_components.new.encoder} (w.law.at l (le-max_left (deepest levels_of vs) (deepest levels_of ws))) (a.law.at l (le-max_right (deepest levels_of vs) (deepest levels_of ws)));
        };
      };
    }

pub encode_record-returns : goal.encode_record-returns
encode_record-returns g t c =
    let v = c.args.value.now in
    let ts = c.args.kinds.now in
    let r = c.args.sequence.now in
    let vs = c.deref-root_values.result.now in
    let ws = c.deref-added_values.result.now in
    let e = c.in-Fields.is ∙ sym (rolls-Fields c.in-Fields.root c.in-Fields.added) in
    let el = fields_levels v _ _ e ∙ ap₂ (λ vs ws. suc (max (deepest levels_of vs) (deepest levels_of ws))) (sym c.deref-root_values.ensures.value) (sym c.deref-added_values.ensures.value) in
    let ev = fields_value v _ _ e ∙ ap₂ (λ vs ws. record_value (map slot_of vs) (map slot_of ws)) (sym c.deref-root_values.ensures.value) (sym c.deref-added_values.ensures.value) in
    encodes_value (record_schema ts r) (levels_of v) _ (value_of v) (record_value (map slot_of vs) (map slot_of ws)) _ _ _ el ev c.encode_fields.ensures

pub encode_record-encode_fields-requires : goal.encode_record-encode_fields-requires
encode_record-encode_fields-requires g t c =
    let v = c.args.value.now in
    let e = c.in-Fields.is ∙ sym (rolls-Fields c.in-Fields.root c.in-Fields.added) in
    let el = fields_levels v _ _ e ∙ ap₂ (λ vs ws. suc (max (deepest levels_of vs) (deepest levels_of ws))) (sym c.deref-root_values.ensures.value) (sym c.deref-added_values.ensures.value) in
    grind (arith, common_steps, el)

pub encode_fields-encode_components-requires : goal.encode_fields-encode_components-requires
encode_fields-encode_components-requires g t c = grind (arith, common_steps, sym c.fit-root_told.ensures ∙ c.if-not-root_told.false)

pub encode_fields-encode_additions-requires : goal.encode_fields-encode_additions-requires
encode_fields-encode_additions-requires g t c = grind (arith, common_steps, sym c.fit-added_told.ensures ∙ c.if-not-added_told.false)

pub encode_component-returns-in-Default : goal.encode_component-returns-in-Default
encode_component-returns-in-Default g t c = λ q. rw c.in-Default.is (c.encode_default.ensures (stands_there c.in-Default.otherwise (slot_of c.args.value.now) (rw c.in-Default.is at q)))

pub encode_default-returns-in_err-set_presence : goal.encode_default-returns-in_err-set_presence
encode_default-returns-in_err-set_presence g t c =
    let p = err_from_is_err_and c.from_residual.result c.from_residual.ensures.1 in
    let o = c.in_err-set_presence.ensures in
    λ q. rw (p.1, p.2) (record {
      law = record { at = λ n le. default_unmarked g.E.Encoder.rules c.args.otherwise.now _ c.args.encoder.now c.set_presence.new.self c.set_presence.new.self (slot_of c.args.value.now) c.is_default_tree_at-differs.result _ _ (c.is_default_tree_at-differs.ensures.at n le) refl q o.law };
      fails = o.behaves.fails;
      kept = o.behaves.kept;
    })

pub encode_default-returns-then-not-differs : goal.encode_default-returns-then-not-differs
encode_default-returns-then-not-differs g t c =
    let o = c.in_ok-set_presence.ensures in
    λ q. record {
      law = record { at = λ n le. default_left g.E.Encoder.rules c.args.otherwise.now _ c.args.encoder.now c.set_presence.new.self (slot_of c.args.value.now) c.is_default_tree_at-differs.result _ (c.is_default_tree_at-differs.ensures.at n le) refl (ap not c.if-not-differs.true) q o.law };
      fails = tt;
      kept = o.behaves.kept;
    }

pub encode_default-returns : goal.encode_default-returns
encode_default-returns g t c =
    let o = c.in_ok-set_presence.ensures in
    let w = c.encode_value.ensures in
    λ q. record {
      law = record { at = λ n le. default_there g.E.Encoder.rules c.args.otherwise.now g.met.E.Encoder.lawful _ c.args.encoder.now c.set_presence.new.self c.encode_value.new.encoder (slot_of c.args.value.now) c.is_default_tree_at-differs.result _ c.encode_value.result (c.is_default_tree_at-differs.ensures.at n le) refl (ap not c.if-not-differs.false) q o.law (w.law.at n le) };
      fails = w.behaves.fails;
      kept = w.behaves.kept ∙ o.behaves.kept;
    }

pub encode_addition-returns-in-Default : goal.encode_addition-returns-in-Default
encode_addition-returns-in-Default g t c = λ q. rw c.in-Default.is (c.encode_differing.ensures (sym c.is_there.ensures ∙ c.if-not-is_there.false))

pub encode_differing-returns-then-is_default_tree_at : goal.encode_differing-returns-then-is_default_tree_at
encode_differing-returns-then-is_default_tree_at g t c =
    let w = c.skip_addition.ensures in
    λ q. record {
      law = record { at = λ n le. default_skipped g.E.Encoder.rules c.args.otherwise.now _ c.args.encoder.now c.skip_addition.new.self (slot_of c.args.value.now) c.is_default_tree_at.result c.skip_addition.result (c.is_default_tree_at.ensures.at n le) c.if-is_default_tree_at.true q w.law };
      fails = w.behaves.fails;
      kept = w.behaves.kept;
    }

pub encode_differing-returns : goal.encode_differing-returns
encode_differing-returns g t c =
    let w = c.encode_open.ensures in
    λ q. record {
      law = record { at = λ n le. default_open g.E.Encoder.rules c.args.otherwise.now _ c.args.encoder.now c.encode_open.new.encoder (slot_of c.args.value.now) c.is_default_tree_at.result c.encode_open.result (c.is_default_tree_at.ensures.at n le) c.if-is_default_tree_at.false q (w.law.at n le) };
      fails = w.fails;
      kept = w.kept;
    }

pub encode_kind-returns-in-Simple : goal.encode_kind-returns-in-Simple
encode_kind-returns-in-Simple g t c =
    let v = c.args.value.now in
    let ts = c.args.kinds.now in
    let s = c.in-Simple.simple in
    let there = plain_there ts c.args.place (SimpleKind s) (c.requires ∙ ap Some c.in-Simple.is) (λ j e. absurd (cc)) in
    encodes_same (schema_at ts c.args.place) (always (simple_schema s)) (levels_of v) (value_of v) _ _ _ (λ n. there n ∙ simple_plain ts s n) c.encode_leaf.ensures

use Rattle.std.proofs.Common.{◌≡◌, ◌∙◌, refl, sym, ap, subst, rules, true, false, inr, ◌∷◌, ◌++◌, Err, Some}
use Rattle.std.specs.Prelude.{count_by, is_some, option_map}
use Rattle.std.proofs.lemmas.Result.{err_from_is_err_and}
use Rattle.rasn_schema.specs.Forms.{is_size_marked, size_of}
use Rattle.rasn_schema.specs.Lists.{list_at}
use Rattle.rasn_schema.specs.Schemas
use Rattle.rasn_schema.specs.Schemas.{default, optional}
use Rattle.rasn_traits.specs.Scopes.{FaultyPart, ReadsPart, reads_left_out}
use Rattle.rasn_traits.proofs.Optionals.{bit_refused, value_read}
use Rattle.rasn_traits.proofs.Reading.{addition_lacks, both_read, inside_left, record_addition_failed, record_ended, record_endless, record_root_failed}
use Rattle.rasn_dynamic.specs.Types.{behind, contained_at, tree_value, grouped, in_root, is_not_required, of_size, parts_at, record_schema, schema_at, choice_of}
use Rattle.rasn_dynamic.specs.declared.types.Kind.TheVariants.{Record as RecordKind, Simple as SimpleKind}
use Rattle.rasn_dynamic.specs.declared.values.Value.TheVariants.{Absent}
use Rattle.rasn_schema.specs.Bags.{set_at}
use Rattle.rasn_dynamic.specs.Values.{value_of}
use Rattle.rasn_dynamic_codec.proofs.OneAddition.{addition_unread}
use Rattle.rasn_dynamic_codec.proofs.BagsReading.{bag_answered, bag_refused}
use Rattle.rasn_dynamic.proofs.Places.{choice_plain, contained_none, contained_there, containing_plain, containing_there, date_plain, list_plain, none_there, open_plain, plain_there, record_plain, set_plain, simple_plain}
use Rattle.rasn_dynamic_codec.proofs.Presences.{group_left}
use Rattle.rasn_dynamic_codec.proofs.Putting.{component_put, put_done, put_failed, puts_same, required_read, value_put}
use Rattle.rasn_dynamic_codec.proofs.Reading.{contents_unread, default_added, default_taken, given_read, inside_unread, lacking_read, none_given, none_opened, octets_unended, octets_unopened, onward_all, onward_fails, onward_read, onward_room, open_unended, read_additions, read_components, reads_same, slotted}
use Rattle.rasn_dynamic.proofs.Trees.{absent_slot, bag_slot, elements_slot, fields_slot, slot_there, value_there, alternative_slot}
use Rattle.rasn_dynamic_codec.proofs.Unfit.{record_counted}
use Rattle.rasn_schema.specs.Choices.{one_level_in}
use Rattle.rasn_traits.specs.Counted.{index_in, side_of}
use Rattle.rasn_dynamic_codec.proofs.Choosing.{chosen, is_choice_of, placed_ended, placed_endless, placed_failed, placed_left, stands_there}
use Rattle.rasn_dynamic_codec.proofs.read.+reading.Goals as goal

pub put_component-returns-in-Required : goal.put_component-returns-in-Required
put_component-returns-in-Required g t c = rw c.in-Required.is (puts_same (λ a w. required_read g.D.Decoder.rules _ _ _ a w) c.put_value.ensures)

pub put_component-returns-in-Optional : goal.put_component-returns-in-Optional
put_component-returns-in-Optional g t c = rw c.in-Optional.is c.put_optional.ensures

pub put_component-returns-in-Group : goal.put_component-returns-in-Group
put_component-returns-in-Group g t c = rw c.in-Group.is c.put_optional-in-Group.ensures

pub put_component-returns-in-Default : goal.put_component-returns-in-Default
put_component-returns-in-Default g t c = rw c.in-Default.is c.put_default.ensures

pub put_optional-returns : goal.put_optional-returns
put_optional-returns g t c =
    let r = g.D.Decoder.rules in
    let b = c.in_ok-next_presence.ensures.behaves in
    let s = schema_at c.args.kinds.now c.args.place in
    let x = c.args.decoder.now in
    let k = rw c.if-not-branch.false at c.in_ok-next_presence.ensures.law in
    let l = g.met.D.Decoder.lawful.marked.level _ _ _ k in
    puts_same (λ a w. record {
      law = slotted r.memory (λ e. FaultyPart r e optional (s (r.levels x))) (ReadsPart r optional (s (r.levels x))) x a c.put_value.new.decoder w.value
          (value_read g.met.D.Decoder.lawful value_of optional (s (r.levels x)) x c.put_value.new.decoder a refl k (rw l at w.read.law));
      behaves = record { again = λ q. absurd (b.again q); fails = w.read.behaves.fails; kept = w.read.behaves.kept ∙ b.kept };
    }) c.put_value.ensures

pub put_value-returns-in-None : goal.put_value-returns-in-None
put_value-returns-in-None g t c =
    let e = none_there c.args.kinds.now c.args.place (sym c.kind_at.ensures ∙ ap (option_map (λ k. k.now)) c.in-None.is) (g.D.Decoder.rules.levels c.args.decoder.now) in
    puts_same (λ a w. reads_same _ Schemas.real _ a _ e w) c.put_nothing.ensures

pub put_kind-returns-in-Simple : goal.put_kind-returns-in-Simple
put_kind-returns-in-Simple g t c =
    let ts = c.args.kinds.now in
    let s = c.in-Simple.simple in
    let n = g.D.Decoder.rules.levels c.args.decoder.now in
    let there = plain_there ts c.args.place (SimpleKind s) (c.requires ∙ ap Some c.in-Simple.is) (λ j e. absurd (cc)) in
    puts_same (λ a w. reads_same _ _ _ a _ (there n ∙ simple_plain ts s n) w) c.put_leaf.ensures

pub put_kind-returns-in-Record : goal.put_kind-returns-in-Record
put_kind-returns-in-Record g t c =
    let ts = c.args.kinds.now in
    let d = c.in-Record.record in
    let n = g.D.Decoder.rules.levels c.args.decoder.now in
    let there = plain_there ts c.args.place (RecordKind d) (c.requires ∙ ap Some c.in-Record.is) (λ j e. absurd (cc)) in
    puts_same (λ a w. reads_same _ _ _ a _ (there n ∙ record_plain ts d n) w) c.put_record.ensures

pub put_kind-returns-in_default : goal.put_kind-returns-in_default
put_kind-returns-in_default g t c = c.put_other.ensures

pub put_optional-returns-in_err-next_presence : goal.put_optional-returns-in_err-next_presence
put_optional-returns-in_err-next_presence g t c =
    let p = err_from_is_err_and c.from_residual.result c.from_residual.ensures.1 in
    let b = c.in_err-next_presence.ensures in
    rw (p.1, p.2) (record { answer = Err _; put = refl; owed = record { law = bit_refused refl b.law; behaves = record { again = b.behaves.again; fails = b.behaves.fails; kept = b.behaves.kept } } })

pub put_optional-returns-then-not-branch : goal.put_optional-returns-then-not-branch
put_optional-returns-then-not-branch g t c =
    let b = c.in_ok-next_presence.ensures.behaves in
    let x = c.args.decoder.now in
    component_put g.met.D.Decoder.lawful optional (schema_at c.args.kinds.now c.args.place (g.D.Decoder.rules.levels x)) x c.next_presence.new.self c.put.new.decoder Absent _ _ _
    (record { law = rw absent_slot (reads_left_out refl (rw c.if-not-branch.true at c.in_ok-next_presence.ensures.law)); behaves = record { again = b.again; fails = tt; kept = b.kept } })
    c.put.ensures.held c.put.ensures.behind

pub decode_components-returns-in_err-put_component : goal.decode_components-returns-in_err-put_component
decode_components-returns-in_err-put_component g t c =
    let p = err_from_is_err_and c.from_residual.result c.from_residual.ensures.1 in
    let r = g.D.Decoder.rules in
    let m = read_components r g.met.D.Decoder.lawful in
    let i = c.loop-component.invariant in
    let w = put_failed c.in_err-put_component.ensures in
    rw (p.1, p.2) (record { takes = record { law = onward_fails r m i _ c.loop-component-test.true c.component-item.is _ w.law; fails = w.behaves.fails; kept = w.behaves.kept ∙ i.kept }; level = tt })

pub decode_components-loop-component-preserved : goal.decode_components-loop-component-preserved
decode_components-loop-component-preserved g t c =
    let r = g.D.Decoder.rules in
    let m = read_components r g.met.D.Decoder.lawful in
    let i = c.loop-component.invariant in
    let q = put_done c.in_ok-put_component.ensures in
    rw q.1 (onward_read r m i _ c.loop-component-test.true c.component-item.is q.0 c.put_component.new.decoder q.2.law q.2.behaves.kept)

pub put_default-returns-in_err-value : goal.put_default-returns-in_err-value
put_default-returns-in_err-value g t c =
    let p = err_from_is_err_and c.from_residual.result c.from_residual.ensures.1 in
    rw (p.1, p.2) (record { answer = Err _; put = refl; owed = c.in_err-value.ensures })

pub put_default-returns : goal.put_default-returns
put_default-returns g t c = component_put g.met.D.Decoder.lawful (default (tree_value c.args.otherwise.now)) _ _ _ _ _ _ _ _ c.in_ok-value.ensures c.put.ensures.held c.put.ensures.behind

pub put_record-returns-in_err-value : goal.put_record-returns-in_err-value
put_record-returns-in_err-value g t c =
    let p = err_from_is_err_and c.from_residual.result c.from_residual.ensures.1 in
    rw (p.1, p.2) (record { answer = Err _; put = refl; owed = c.in_err-value.ensures })

pub put_record-returns : goal.put_record-returns
put_record-returns g t c = value_put g.met.D.Decoder.lawful _ _ _ _ _ _ _ _ c.in_ok-value.ensures c.put.ensures.held c.put.ensures.behind

pub put_other-returns-in_err-value : goal.put_other-returns-in_err-value
put_other-returns-in_err-value g t c =
    let p = err_from_is_err_and c.from_residual.result c.from_residual.ensures.1 in
    rw (p.1, p.2) (record { answer = Err _; put = refl; owed = c.in_err-value.ensures })

pub put_other-returns : goal.put_other-returns
put_other-returns g t c = value_put g.met.D.Decoder.lawful _ _ _ _ _ _ _ _ c.in_ok-value.ensures c.put.ensures.held c.put.ensures.behind

pub decode_components-returns : goal.decode_components-returns
decode_components-returns g t c =
    let r = g.D.Decoder.rules in
    let m = read_components r g.met.D.Decoder.lawful in
    let i = c.loop-component.invariant in
    record { takes = record { law = onward_all r m i c.loop-component-test.false; fails = tt; kept = i.kept }; level = i.level }

pub decode_additions-returns-in_err-value : goal.decode_additions-returns-in_err-value
decode_additions-returns-in_err-value g t c =
    let p = err_from_is_err_and c.from_residual.result c.from_residual.ensures.1 in
    let r = g.D.Decoder.rules in
    let m = read_additions r g.met.D.Decoder.lawful c.args.kinds.now in
    let i = c.loop-component.invariant in
    let w = c.in_err-value.ensures in
    rw (p.1, p.2) (record { law = onward_fails r m i _ c.loop-component-test.true c.component-item.is _ w.law; fails = w.behaves.fails; kept = w.behaves.kept ∙ i.kept })

pub decode_additions-returns-then-not-push_value : goal.decode_additions-returns-then-not-push_value
decode_additions-returns-then-not-push_value g t c =
    let r = g.D.Decoder.rules in
    let m = read_additions r g.met.D.Decoder.lawful c.args.kinds.now in
    let i = c.loop-component.invariant in
    let w = c.in_ok-value.ensures in
    let n = onward_read r m i _ c.loop-component-test.true c.component-item.is c.in_ok-value.value c.decode_addition.new.decoder w.law w.behaves.kept in
    record { law = onward_room r m n c.out_of_memory.result c.out_of_memory.ensures.memory; fails = c.out_of_memory.ensures.fails; kept = c.out_of_memory.ensures.kept ∙ n.kept }

pub decode_additions-loop-component-preserved : goal.decode_additions-loop-component-preserved
decode_additions-loop-component-preserved g t c =
    let r = g.D.Decoder.rules in
    let m = read_additions r g.met.D.Decoder.lawful c.args.kinds.now in
    let i = c.loop-component.invariant in
    let w = c.in_ok-value.ensures in
    let n = onward_read r m i _ c.loop-component-test.true c.component-item.is c.in_ok-value.value c.decode_addition.new.decoder w.law w.behaves.kept in
    rw (c.push_value.ensures c.if-not-push_value.false) n

pub decode_additions-returns : goal.decode_additions-returns
decode_additions-returns g t c =
    let r = g.D.Decoder.rules in
    let m = read_additions r g.met.D.Decoder.lawful c.args.kinds.now in
    let i = c.loop-component.invariant in
    record { law = onward_all r m i c.loop-component-test.false; fails = tt; kept = i.kept }

pub decode_addition-returns-in_err-value : goal.decode_addition-returns-in_err-value
decode_addition-returns-in_err-value g t c =
    let p = err_from_is_err_and c.from_residual.result c.from_residual.ensures.1 in
    let w = c.in_err-value.ensures in
    rw (p.1, p.2) (record { law = addition_unread g.D.Decoder.rules w.law; behaves = record { again = w.behaves.again; fails = w.behaves.fails; kept = w.behaves.kept } })

pub decode_addition-returns-then-is_there : goal.decode_addition-returns-then-is_there
decode_addition-returns-then-is_there g t c =
    let w = c.in_ok-value.ensures in
    record { law = given_read _ _ _ _ _ (sym c.if-is_there.true ∙ c.is_there.ensures) w.law; behaves = record { again = w.behaves.again; fails = tt; kept = w.behaves.kept } }

pub decode_addition-returns-in-Required : goal.decode_addition-returns-in-Required
decode_addition-returns-in-Required g t c =
    let w = c.in_ok-value.ensures in
    let d = c.required_extension_not_present.ensures in
    let n = none_given g.D.Decoder.rules _ _ _ _ (sym c.if-is_there.false ∙ c.is_there.ensures) w.law in
    rw c.in-Required.is (record { law = inr (addition_lacks g.met.D.Decoder.lawful n d.lacking); behaves = record { again = λ q. absurd (w.behaves.again q); fails = d.fails; kept = d.kept ∙ w.behaves.kept } })

pub decode_addition-returns-in-Optional : goal.decode_addition-returns-in-Optional
decode_addition-returns-in-Optional g t c =
    let w = c.in_ok-value.ensures in
    rw c.in-Optional.is (record { law = lacking_read _ _ _ _ _ refl (sym c.if-is_there.false ∙ c.is_there.ensures) w.law; behaves = record { again = w.behaves.again; fails = tt; kept = w.behaves.kept } })

pub decode_open-returns-in_err-outside : goal.decode_open-returns-in_err-outside
decode_open-returns-in_err-outside g t c =
    let p = err_from_is_err_and c.from_residual.result c.from_residual.ensures.1 in
    let o = c.in_err-outside.ensures.opened in
    rw (p.1, p.2) (record { law = none_opened _ _ _ o.law; behaves = record { again = o.behaves.again; fails = o.behaves.fails; kept = o.behaves.kept } })

pub decode_open-returns-in_default : goal.decode_open-returns-in_default
decode_open-returns-in_default g t c =
    let o = c.in_ok-outside.ensures.opened in
    let h = rw c.in_default.is at o.law in
    let r = g.D.Decoder.rules in
    let s = schema_at c.args.kinds.now c.args.place (r.levels c.args.decoder.now) in
    record { law = subst (λ z. r.adds s c.args.decoder.now z c.open_next.new.decoder) (sym absent_slot) (h s); behaves = record { again = o.behaves.again; fails = tt; kept = o.behaves.kept } }

pub decode_open-returns-in_err-value : goal.decode_open-returns-in_err-value
decode_open-returns-in_err-value g t c =
    let p = err_from_is_err_and c.from_residual-in_err-value.result c.from_residual-in_err-value.ensures.1 in
    let L = g.met.D.Decoder.lawful in
    let A = g.met.D.Decoder.additions in
    let r = g.D.Decoder.rules in
    let x = c.args.decoder.now in
    let s = schema_at c.args.kinds.now c.args.place (r.levels x) in
    let o = c.in_ok-outside.ensures in
    let h = rw c.in-Some.is at o.opened.law in
    let b = o.opened.behaves in
    let w = c.in_err-value.ensures.read in
    rw (p.1, p.2) (record {
      law = inside_unread L A s x c.in-Some.outside c.open_next.new.decoder _ h (rw o.level at w.law);
      behaves = record { again = λ q. absurd (b.again q); fails = w.behaves.fails; kept = w.behaves.kept ∙ b.kept };
    })

pub decode_open-returns-in_err-close_addition : goal.decode_open-returns-in_err-close_addition
decode_open-returns-in_err-close_addition g t c =
    let p = err_from_is_err_and c.from_residual-in_err-close_addition.result c.from_residual-in_err-close_addition.ensures.1 in
    let L = g.met.D.Decoder.lawful in
    let A = g.met.D.Decoder.additions in
    let r = g.D.Decoder.rules in
    let x = c.args.decoder.now in
    let s = schema_at c.args.kinds.now c.args.place (r.levels x) in
    let o = c.in_ok-outside.ensures in
    let h = rw c.in-Some.is at o.opened.law in
    let b = o.opened.behaves in
    let w = c.in_ok-value.ensures.read in
    let a = rw o.level at w.law in
    let d = c.in_err-close_addition.ensures in
    rw (p.1, p.2) (record {
      law = open_unended L A s x c.in-Some.outside c.open_next.new.decoder c.decode_value.new.decoder _ _ h a (d.law ((L.spelled s).left _ _ _ a));
      behaves = record { again = λ q. absurd (b.again q); fails = d.behaves.fails; kept = d.behaves.kept ∙ w.behaves.kept ∙ b.kept };
    })

pub decode_open-returns : goal.decode_open-returns
decode_open-returns g t c =
    let L = g.met.D.Decoder.lawful in
    let A = g.met.D.Decoder.additions in
    let r = g.D.Decoder.rules in
    let x = c.args.decoder.now in
    let s = schema_at c.args.kinds.now c.args.place (r.levels x) in
    let o = c.in_ok-outside.ensures in
    let h = rw c.in-Some.is at o.opened.law in
    let b = o.opened.behaves in
    let v = c.in_ok-value.ensures in
    let w = v.read in
    let a = rw o.level at w.law in
    let d = c.in_ok-close_addition.ensures in
    record {
      law = subst (λ z. r.adds s x z c.close_addition.new.self) (sym v.value) (A.addition_read s x c.open_next.new.decoder c.decode_value.new.decoder c.close_addition.new.self c.in-Some.outside _ h a (d.law ((L.spelled s).left _ _ _ a)));
      behaves = record { again = λ q. absurd (b.again q); fails = tt; kept = d.behaves.kept ∙ w.behaves.kept ∙ b.kept };
    }

pub decode_record-returns-in_err-outside : goal.decode_record-returns-in_err-outside
decode_record-returns-in_err-outside g t c =
    let p = err_from_is_err_and c.from_residual.result c.from_residual.ensures.1 in
    let L = g.met.D.Decoder.lawful in
    let K = g.met.D.Decoder.fields in
    let ts = c.args.kinds.now in
    let r = c.args.sequence.now in
    let ps = parts_at in_root ts r.root.items in
    let qs = parts_at (grouped ts) ts (behind r.additions) in
    let k = record_counted ts r c.presence_bit_count-bits.result c.added_count-count.result (c.presence_bit_count-bits.ensures ∙ ap (λ cs. count_by (λ d. is_not_required d.presence) cs) c.root-components.ensures) c.added_count-count.ensures in
    let o = c.in_err-outside.ensures.opened ps (is_some r.additions) qs k in
    rw (p.1, p.2) (record { read = record { law = o.law; behaves = record { again = o.behaves.again; fails = o.behaves.fails; kept = o.behaves.kept } }; value = tt })

pub decode_record-returns-in_err-root : goal.decode_record-returns-in_err-root
decode_record-returns-in_err-root g t c =
    let p = err_from_is_err_and c.from_residual-in_err-root.result c.from_residual-in_err-root.ensures.1 in
    let L = g.met.D.Decoder.lawful in
    let K = g.met.D.Decoder.fields in
    let ts = c.args.kinds.now in
    let r = c.args.sequence.now in
    let ps = parts_at in_root ts r.root.items in
    let qs = parts_at (grouped ts) ts (behind r.additions) in
    let k = record_counted ts r c.presence_bit_count-bits.result c.added_count-count.result (c.presence_bit_count-bits.ensures ∙ ap (λ cs. count_by (λ d. is_not_required d.presence) cs) c.root-components.ensures) c.added_count-count.ensures in
    let o = c.in_ok-outside.ensures.opened ps (is_some r.additions) qs k in
    let w = rw c.root-components.ensures at c.in_err-root.ensures.takes in
    rw (p.1, p.2) (record {
      read = record {
        law = record_root_failed L K ps (is_some r.additions) qs o.law.0 o.law.1 w.law;
        behaves = record { again = λ q. absurd (o.behaves.again q); fails = w.fails; kept = w.kept ∙ o.behaves.kept };
      };
      value = tt;
    })

pub decode_record-returns-in_err-added : goal.decode_record-returns-in_err-added
decode_record-returns-in_err-added g t c =
    let p = err_from_is_err_and c.from_residual-in_err-added.result c.from_residual-in_err-added.ensures.1 in
    let L = g.met.D.Decoder.lawful in
    let K = g.met.D.Decoder.fields in
    let ts = c.args.kinds.now in
    let r = c.args.sequence.now in
    let ps = parts_at in_root ts r.root.items in
    let qs = parts_at (grouped ts) ts (behind r.additions) in
    let k = record_counted ts r c.presence_bit_count-bits.result c.added_count-count.result (c.presence_bit_count-bits.ensures ∙ ap (λ cs. count_by (λ d. is_not_required d.presence) cs) c.root-components.ensures) c.added_count-count.ensures in
    let o = c.in_ok-outside.ensures.opened ps (is_some r.additions) qs k in
    let w = rw c.root-components.ensures at c.in_ok-root.ensures.takes in
    let a = rw c.behind-additions.ensures at c.in_err-added.ensures in
    rw (p.1, p.2) (record {
      read = record {
        law = record_addition_failed L K ps (is_some r.additions) qs o.law.0 o.law.1 _ _ w.law a.law;
        behaves = record { again = λ q. absurd (o.behaves.again q); fails = a.fails; kept = a.kept ∙ w.kept ∙ o.behaves.kept };
      };
      value = tt;
    })

pub decode_record-returns-in_err-close_fields_of : goal.decode_record-returns-in_err-close_fields_of
decode_record-returns-in_err-close_fields_of g t c =
    let p = err_from_is_err_and c.from_residual-in_err-close_fields_of.result c.from_residual-in_err-close_fields_of.ensures.1 in
    let L = g.met.D.Decoder.lawful in
    let K = g.met.D.Decoder.fields in
    let ts = c.args.kinds.now in
    let r = c.args.sequence.now in
    let ps = parts_at in_root ts r.root.items in
    let qs = parts_at (grouped ts) ts (behind r.additions) in
    let k = record_counted ts r c.presence_bit_count-bits.result c.added_count-count.result (c.presence_bit_count-bits.ensures ∙ ap (λ cs. count_by (λ d. is_not_required d.presence) cs) c.root-components.ensures) c.added_count-count.ensures in
    let o = c.in_ok-outside.ensures.opened ps (is_some r.additions) qs k in
    let w = rw c.root-components.ensures at c.in_ok-root.ensures.takes in
    let a = rw c.behind-additions.ensures at c.in_ok-added.ensures in
    let both = both_read L K ps (is_some r.additions) qs o.law.0 o.law.1 _ _ _ _ w.law a.law in
    let d = c.in_err-close_fields_of.ensures in
    rw (p.1, p.2) (record {
      read = record {
        law = record_endless L K ps (is_some r.additions) qs o.law.0 o.law.1 _ _ _ both (d.law (inside_left L K ps (is_some r.additions) qs o.law.0 o.law.1 _ _ _ both));
        behaves = record { again = λ q. absurd (o.behaves.again q); fails = d.behaves.fails; kept = d.behaves.kept ∙ a.kept ∙ w.kept ∙ o.behaves.kept };
      };
      value = tt;
    })

pub decode_record-close_fields_of-requires : goal.decode_record-close_fields_of-requires
decode_record-close_fields_of-requires g t c =
    let L = g.met.D.Decoder.lawful in
    let K = g.met.D.Decoder.fields in
    let ts = c.args.kinds.now in
    let r = c.args.sequence.now in
    let ps = parts_at in_root ts r.root.items in
    let qs = parts_at (grouped ts) ts (behind r.additions) in
    let k = record_counted ts r c.presence_bit_count-bits.result c.added_count-count.result (c.presence_bit_count-bits.ensures ∙ ap (λ cs. count_by (λ d. is_not_required d.presence) cs) c.root-components.ensures) c.added_count-count.ensures in
    let o = c.in_ok-outside.ensures.opened ps (is_some r.additions) qs k in
    let w = rw c.root-components.ensures at c.in_ok-root.ensures.takes in
    let a = rw c.behind-additions.ensures at c.in_ok-added.ensures in
    record {
      in_turn = record {
        parts = ps;
        marker = is_some r.additions;
        additions = qs;
        in_turn = record {
          before = _;
          inside = c.open_fields_of.new.self;
          levels = g.D.Decoder.rules.levels c.open_fields_of.new.self;
          root = _;
          added = _;
          opened = o.law.1;
          read = both_read L K ps (is_some r.additions) qs o.law.0 o.law.1 _ _ _ _ w.law a.law;
        };
      };
    }

pub decode_record-returns : goal.decode_record-returns
decode_record-returns g t c =
    let L = g.met.D.Decoder.lawful in
    let K = g.met.D.Decoder.fields in
    let ts = c.args.kinds.now in
    let r = c.args.sequence.now in
    let ps = parts_at in_root ts r.root.items in
    let qs = parts_at (grouped ts) ts (behind r.additions) in
    let k = record_counted ts r c.presence_bit_count-bits.result c.added_count-count.result (c.presence_bit_count-bits.ensures ∙ ap (λ cs. count_by (λ d. is_not_required d.presence) cs) c.root-components.ensures) c.added_count-count.ensures in
    let o = c.in_ok-outside.ensures.opened ps (is_some r.additions) qs k in
    let w = rw c.root-components.ensures at c.in_ok-root.ensures.takes in
    let a = rw c.behind-additions.ensures at c.in_ok-added.ensures in
    let both = both_read L K ps (is_some r.additions) qs o.law.0 o.law.1 _ _ _ _ w.law a.law in
    let d = c.in_ok-close_fields_of.ensures in
    let e = fields_slot c.in_ok-root.root c.in_ok-added.added in
    record {
      read = record {
        law = subst (λ v. g.D.Decoder.rules.spells (record_schema ts r (g.D.Decoder.rules.levels c.args.decoder.now)) c.args.decoder.now v c.close_fields_of.new.self) (sym (value_there _ _ e)) (record_ended L K ps (is_some r.additions) qs o.law.0 o.law.1 _ _ _ _ both (d.law (inside_left L K ps (is_some r.additions) qs o.law.0 o.law.1 _ _ _ both)));
        behaves = record { again = λ q. absurd (o.behaves.again q); fails = tt; kept = d.behaves.kept ∙ a.kept ∙ w.kept ∙ o.behaves.kept };
      };
      value = slot_there _ _ e;
    }

pub decode_list-returns : goal.decode_list-returns
decode_list-returns g t c =
    let w = c.in_ok-values.ensures in
    let e = elements_slot c.in_ok-values.values in
    record { read = record { law = subst (λ v. g.D.Decoder.rules.spells (list_at (schema_at c.args.kinds.now c.args.of) (size_of (of_size c.args.size.now)) (is_size_marked (of_size c.args.size.now)) (g.D.Decoder.rules.levels c.args.decoder.now)) c.args.decoder.now v c.decode_elements.new.decoder) (sym (value_there _ _ e)) w.law; behaves = record { again = w.behaves.again; fails = tt; kept = w.behaves.kept } }; value = slot_there _ _ e }

pub decode_value-returns-in-None : goal.decode_value-returns-in-None
decode_value-returns-in-None g t c =
    reads_same _ Schemas.real _ _ _ (none_there c.args.kinds.now c.args.place (sym c.kind_at.ensures ∙ ap (option_map (λ k. k.now)) c.in-None.is) (g.D.Decoder.rules.levels c.args.decoder.now)) c.decode_nothing.ensures

pub decode_chosen-returns-in-Some : goal.decode_chosen-returns-in-Some
decode_chosen-returns-in-Some g t c = rw c.in-Some.ensures c.decode_boxed.ensures

pub decode_chosen-returns-in-None : goal.decode_chosen-returns-in-None
decode_chosen-returns-in-None g t c = rw c.in-None.ensures tt

pub decode_choice-returns-in_err-place : goal.decode_choice-returns-in_err-place
decode_choice-returns-in_err-place g t c =
    let p = err_from_is_err_and c.from_residual.result c.from_residual.ensures.1 in
    let ts = c.args.kinds.now in
    let d = c.args.choice.now in
    let o = rw c.counts-counts.ensures at c.in_err-place.ensures in
    rw (p.1, p.2) (record { read = record { law = o.opened (choice_of ts d) (is_choice_of ts d); behaves = record { again = o.behaves.again; fails = o.behaves.fails; kept = o.behaves.kept } }; value = tt })

pub decode_choice-returns-in_err-value : goal.decode_choice-returns-in_err-value
decode_choice-returns-in_err-value g t c =
    let p = err_from_is_err_and c.from_residual-in_err-value.result c.from_residual-in_err-value.ensures.1 in
    let ts = c.args.kinds.now in
    let d = c.args.choice.now in
    let n = g.D.Decoder.rules.levels c.open_alternative_of.new.self in
    let o = rw c.counts-counts.ensures at c.in_ok-place.ensures in
    let q = stands_there d c.in_ok-place.place o.place in
    let w = rw q.1 at c.in_err-value.ensures in
    rw (p.1, p.2) (record {
      read = record {
        law = placed_failed g.met.D.Decoder.lawful g.met.D.Decoder.choices (choice_of ts d) (side_of c.in_ok-place.place) (index_in c.in_ok-place.place) (schema_at ts q.0.of n) o.deeper (chosen ts d c.in_ok-place.place q.0 q.1 n) (o.opened (choice_of ts d) (is_choice_of ts d)) w.law;
        behaves = record { again = λ z. absurd (o.behaves.again z); fails = w.behaves.fails; kept = w.behaves.kept ∙ o.behaves.kept };
      };
      value = tt;
    })

pub decode_choice-returns-in_err-close_choice : goal.decode_choice-returns-in_err-close_choice
decode_choice-returns-in_err-close_choice g t c =
    let p = err_from_is_err_and c.from_residual-in_err-close_choice.result c.from_residual-in_err-close_choice.ensures.1 in
    let ts = c.args.kinds.now in
    let d = c.args.choice.now in
    let n = g.D.Decoder.rules.levels c.open_alternative_of.new.self in
    let o = rw c.counts-counts.ensures at c.in_ok-place.ensures in
    let q = stands_there d c.in_ok-place.place o.place in
    let w = rw q.1 at c.in_ok-value.ensures in
    let L = g.met.D.Decoder.lawful in
    let K = g.met.D.Decoder.choices in
    let s = side_of c.in_ok-place.place in
    let k = index_in c.in_ok-place.place in
    let a = chosen ts d c.in_ok-place.place q.0 q.1 n in
    let h = o.opened (choice_of ts d) (is_choice_of ts d) in
    let e = c.in_err-close_choice.ensures in
    rw (p.1, p.2) (record {
      read = record {
        law = placed_endless L K (choice_of ts d) s k (schema_at ts q.0.of n) o.deeper a h _ c.decode_chosen.new.decoder w.law (e.law (placed_left L K (choice_of ts d) s k (schema_at ts q.0.of n) o.deeper a h _ c.decode_chosen.new.decoder w.law));
        behaves = record { again = λ z. absurd (o.behaves.again z); fails = e.behaves.fails; kept = e.behaves.kept ∙ w.behaves.kept ∙ o.behaves.kept };
      };
      value = tt;
    })

pub decode_choice-returns : goal.decode_choice-returns
decode_choice-returns g t c =
    let ts = c.args.kinds.now in
    let d = c.args.choice.now in
    let n = g.D.Decoder.rules.levels c.open_alternative_of.new.self in
    let o = rw c.counts-counts.ensures at c.in_ok-place.ensures in
    let q = stands_there d c.in_ok-place.place o.place in
    let w = rw q.1 at c.in_ok-value.ensures in
    let L = g.met.D.Decoder.lawful in
    let K = g.met.D.Decoder.choices in
    let s = side_of c.in_ok-place.place in
    let k = index_in c.in_ok-place.place in
    let a = chosen ts d c.in_ok-place.place q.0 q.1 n in
    let h = o.opened (choice_of ts d) (is_choice_of ts d) in
    let e = c.in_ok-close_choice.ensures in
    let f = alternative_slot c.in_ok-place.place c.in_ok-value.value in
    record {
      read = record {
        law = subst (λ v. g.D.Decoder.rules.spells (one_level_in (choice_of ts d) (g.D.Decoder.rules.levels c.args.decoder.now)) c.args.decoder.now v c.close_choice.new.self) (sym (value_there _ _ f)) (placed_ended L K (choice_of ts d) s k (schema_at ts q.0.of n) o.deeper a h _ c.decode_chosen.new.decoder _ w.law (e.law (placed_left L K (choice_of ts d) s k (schema_at ts q.0.of n) o.deeper a h _ c.decode_chosen.new.decoder w.law)));
        behaves = record { again = λ z. absurd (o.behaves.again z); fails = tt; kept = e.behaves.kept ∙ w.behaves.kept ∙ o.behaves.kept };
      };
      value = slot_there _ _ f;
    }

pub decode_kind-returns-in-Containing : goal.decode_kind-returns-in-Containing
decode_kind-returns-in-Containing g t c = reads_same _ _ _ _ _ (containing_there c.args.kinds.now c.args.place c.in-Containing.of (c.requires ∙ ap Some c.in-Containing.is) (g.D.Decoder.rules.levels c.args.decoder.now)) c.decode_containing.ensures

pub decode_kind-returns-in_default : goal.decode_kind-returns-in_default
decode_kind-returns-in_default g t c = reads_same _ _ _ _ _ (plain_there c.args.kinds.now c.args.place c.args.kind.now c.requires c.in_default.not-Containing (g.D.Decoder.rules.levels c.args.decoder.now)) c.decode_plain.ensures

pub decode_plain-returns-in-Simple : goal.decode_plain-returns-in-Simple
decode_plain-returns-in-Simple g t c = rw c.in-Simple.is (reads_same _ _ _ _ _ (simple_plain c.args.kinds.now c.in-Simple.simple (g.D.Decoder.rules.levels c.args.decoder.now)) c.decode_simple.ensures)

pub decode_plain-returns-in-Date : goal.decode_plain-returns-in-Date
decode_plain-returns-in-Date g t c = rw c.in-Date.is (reads_same _ _ _ _ _ (date_plain c.args.kinds.now (g.D.Decoder.rules.levels c.args.decoder.now)) c.decode_date.ensures)

pub decode_plain-returns-in-List : goal.decode_plain-returns-in-List
decode_plain-returns-in-List g t c = rw c.in-List.is (reads_same _ _ _ _ _ (list_plain c.args.kinds.now c.in-List.of c.in-List.size (g.D.Decoder.rules.levels c.args.decoder.now)) c.decode_list.ensures)

pub decode_plain-returns-in-SetOf : goal.decode_plain-returns-in-SetOf
decode_plain-returns-in-SetOf g t c = rw c.in-SetOf.is (reads_same _ _ _ _ _ (set_plain c.args.kinds.now c.in-SetOf.of c.in-SetOf.size (g.D.Decoder.rules.levels c.args.decoder.now)) c.decode_set_of.ensures)

pub decode_plain-returns-in-Record : goal.decode_plain-returns-in-Record
decode_plain-returns-in-Record g t c = rw c.in-Record.is (reads_same _ _ _ _ _ (record_plain c.args.kinds.now c.in-Record.record (g.D.Decoder.rules.levels c.args.decoder.now)) c.decode_record.ensures)

pub decode_plain-returns-in-Choice : goal.decode_plain-returns-in-Choice
decode_plain-returns-in-Choice g t c = rw c.in-Choice.is (reads_same _ _ _ _ _ (choice_plain c.args.kinds.now c.in-Choice.choice (g.D.Decoder.rules.levels c.args.decoder.now)) c.decode_choice.ensures)

pub decode_plain-returns-in-Containing : goal.decode_plain-returns-in-Containing
decode_plain-returns-in-Containing g t c = rw c.in-Containing.is (reads_same _ _ _ _ _ (containing_plain c.args.kinds.now c.in-Containing.field-0 (g.D.Decoder.rules.levels c.args.decoder.now)) c.decode_nothing.ensures)

pub decode_plain-returns-in-Open : goal.decode_plain-returns-in-Open
decode_plain-returns-in-Open g t c = rw c.in-Open.is (reads_same _ _ _ _ _ (open_plain c.args.kinds.now c.in-Open.field-0 (g.D.Decoder.rules.levels c.args.decoder.now)) c.decode_any.ensures)

pub decode_contained-returns-in-None : goal.decode_contained-returns-in-None
decode_contained-returns-in-None g t c =
    reads_same _ Schemas.real _ _ _ (contained_none c.args.kinds.now c.args.place (sym c.kind_at.ensures ∙ ap (option_map (λ k. k.now)) c.in-None.is) (g.D.Decoder.rules.levels c.args.decoder.now)) c.decode_nothing.ensures

pub decode_contained-returns-in-Some : goal.decode_contained-returns-in-Some
decode_contained-returns-in-Some g t c =
    reads_same _ _ _ _ _ (contained_there c.args.kinds.now c.args.place c.in-Some.kind.now (sym c.kind_at.ensures ∙ ap (option_map (λ k. k.now)) c.in-Some.is) (g.D.Decoder.rules.levels c.args.decoder.now)) c.decode_plain.ensures

pub decode_containing-returns-in_err-outside : goal.decode_containing-returns-in_err-outside
decode_containing-returns-in_err-outside g t c =
    let p = err_from_is_err_and c.from_residual.result c.from_residual.ensures.1 in
    let o = c.in_err-outside.ensures.opened in
    rw (p.1, p.2) (record { read = record { law = octets_unopened g.met.D.Decoder.lawful g.met.D.Decoder.contents _ _ _ o.law; behaves = record { again = o.behaves.again; fails = o.behaves.fails; kept = o.behaves.kept } }; value = tt })

pub decode_containing-returns-in_err-value : goal.decode_containing-returns-in_err-value
decode_containing-returns-in_err-value g t c =
    let p = err_from_is_err_and c.from_residual-in_err-value.result c.from_residual-in_err-value.ensures.1 in
    let L = g.met.D.Decoder.lawful in
    let K = g.met.D.Decoder.contents in
    let r = g.D.Decoder.rules in
    let x = c.args.decoder.now in
    let s = contained_at c.args.kinds.now c.args.of (r.levels x) in
    let o = c.in_ok-outside.ensures in
    let b = o.opened.behaves in
    let w = c.in_err-value.ensures.read in
    rw (p.1, p.2) (record {
      read = record {
        law = contents_unread L K s x c.in_ok-outside.outside c.open_octets.new.decoder _ o.opened.law (rw o.level at w.law);
        behaves = record { again = λ q. absurd (b.again q); fails = w.behaves.fails; kept = w.behaves.kept ∙ b.kept };
      };
      value = tt;
    })

pub decode_containing-returns-in_err-close_contents : goal.decode_containing-returns-in_err-close_contents
decode_containing-returns-in_err-close_contents g t c =
    let p = err_from_is_err_and c.from_residual-in_err-close_contents.result c.from_residual-in_err-close_contents.ensures.1 in
    let L = g.met.D.Decoder.lawful in
    let K = g.met.D.Decoder.contents in
    let r = g.D.Decoder.rules in
    let x = c.args.decoder.now in
    let s = contained_at c.args.kinds.now c.args.of (r.levels x) in
    let o = c.in_ok-outside.ensures in
    let b = o.opened.behaves in
    let w = c.in_ok-value.ensures.read in
    let a = rw o.level at w.law in
    let d = c.in_err-close_contents.ensures in
    rw (p.1, p.2) (record {
      read = record {
        law = octets_unended L K s x c.in_ok-outside.outside c.open_octets.new.decoder c.decode_contained.new.decoder _ _ o.opened.law a (d.law ((L.spelled s).left _ _ _ a));
        behaves = record { again = λ q. absurd (b.again q); fails = d.behaves.fails; kept = d.behaves.kept ∙ w.behaves.kept ∙ b.kept };
      };
      value = tt;
    })

pub decode_containing-returns : goal.decode_containing-returns
decode_containing-returns g t c =
    let L = g.met.D.Decoder.lawful in
    let K = g.met.D.Decoder.contents in
    let r = g.D.Decoder.rules in
    let x = c.args.decoder.now in
    let s = contained_at c.args.kinds.now c.args.of (r.levels x) in
    let o = c.in_ok-outside.ensures in
    let b = o.opened.behaves in
    let v = c.in_ok-value.ensures in
    let w = v.read in
    let a = rw o.level at w.law in
    let d = c.in_ok-close_contents.ensures in
    record {
      read = record {
        law = K.contents_read s x c.open_octets.new.decoder c.decode_contained.new.decoder c.close_contents.new.self c.in_ok-outside.outside _ o.opened.law a (d.law ((L.spelled s).left _ _ _ a));
        behaves = record { again = λ q. absurd (b.again q); fails = tt; kept = d.behaves.kept ∙ w.behaves.kept ∙ b.kept };
      };
      value = v.value;
    }

pub decode_set_of-returns-in_err-values : goal.decode_set_of-returns-in_err-values
decode_set_of-returns-in_err-values g t c =
    let p = err_from_is_err_and c.from_residual.result c.from_residual.ensures.1 in
    let d = of_size c.args.size.now in
    let r = g.D.Decoder.rules in
    let w = c.in_err-values.ensures in
    rw (p.1, p.2) (record {
      read = record {
        law = bag_refused r g.met.D.Decoder.bags (schema_at c.args.kinds.now c.args.of) (size_of d) (is_size_marked d) c.args.decoder.now (r.levels c.args.decoder.now) _ w.law;
        behaves = record { again = w.behaves.again; fails = w.behaves.fails; kept = w.behaves.kept };
      };
      value = tt;
    })

pub decode_set_of-returns : goal.decode_set_of-returns
decode_set_of-returns g t c =
    let d = of_size c.args.size.now in
    let r = g.D.Decoder.rules in
    let w = c.in_ok-values.ensures in
    let e = bag_slot c.in_ok-values.values in
    let n = r.levels c.args.decoder.now in
    let s = set_at (schema_at c.args.kinds.now c.args.of) (size_of d) (is_size_marked d) n in
    record {
      read = record {
        law = subst (λ v. r.spells s c.args.decoder.now v c.decode_elements.new.decoder) (sym (value_there _ _ e))
            (bag_answered r g.met.D.Decoder.bags (schema_at c.args.kinds.now c.args.of) (size_of d) (is_size_marked d) c.args.decoder.now n _ c.decode_elements.new.decoder w.law);
        behaves = record { again = w.behaves.again; fails = tt; kept = w.behaves.kept };
      };
      value = slot_there _ _ e;
    }

pub decode_addition-returns-in-Group : goal.decode_addition-returns-in-Group
decode_addition-returns-in-Group g t c =
    let w = c.in_ok-value.ensures in
    let b = grouped c.args.kinds.now c.args.component.now in
    rw c.in-Group.is (record { law = lacking_read _ _ _ _ _ (group_left b) (sym c.if-is_there.false ∙ c.is_there.ensures) w.law; behaves = record { again = w.behaves.again; fails = tt; kept = w.behaves.kept } })

pub decode_default-returns-in_err-there : goal.decode_default-returns-in_err-there
decode_default-returns-in_err-there g t c =
    let p = err_from_is_err_and c.from_residual.result c.from_residual.ensures.1 in
    let b = c.in_err-there.ensures in
    rw (p.1, p.2) (record { law = bit_refused refl b.law; behaves = record { again = b.behaves.again; fails = b.behaves.fails; kept = b.behaves.kept } })

pub decode_default-returns-then-not-there : goal.decode_default-returns-then-not-there
decode_default-returns-then-not-there g t c =
    let r = g.D.Decoder.rules in
    let x = c.args.decoder.now in
    let d = tree_value c.args.otherwise.now in
    let b = c.in_ok-there.ensures.behaves in
    let h = c.made.ensures in
    record {
      law = default_taken g.met.D.Decoder.lawful d (schema_at c.args.kinds.now c.args.place (r.levels x)) x c.next_presence.new.self c.made.new.decoder c.made.result (rw c.if-not-there.true at c.in_ok-there.ensures.law) h.law;
      behaves = record { again = λ q. absurd (b.again q); fails = h.fails; kept = h.kept ∙ b.kept };
    }

pub decode_default-returns : goal.decode_default-returns
decode_default-returns g t c =
    let r = g.D.Decoder.rules in
    let x = c.args.decoder.now in
    let d = default (tree_value c.args.otherwise.now) in
    let w = c.decode_value.ensures in
    let b = c.in_ok-there.ensures.behaves in
    let s = schema_at c.args.kinds.now c.args.place in
    let k = rw c.if-not-there.false at c.in_ok-there.ensures.law in
    let l = g.met.D.Decoder.lawful.marked.level _ _ _ k in
    record {
      law = slotted r.memory (λ e. FaultyPart r e d (s (r.levels x))) (ReadsPart r d (s (r.levels x))) x c.decode_value.result c.decode_value.new.decoder w.value
          (value_read g.met.D.Decoder.lawful value_of d (s (r.levels x)) x c.decode_value.new.decoder c.decode_value.result refl k (rw l at w.read.law));
      behaves = record { again = λ q. absurd (b.again q); fails = w.read.behaves.fails; kept = w.read.behaves.kept ∙ b.kept };
    }

pub decode_addition-returns-in-Default : goal.decode_addition-returns-in-Default
decode_addition-returns-in-Default g t c =
    let r = g.D.Decoder.rules in
    let x = c.args.decoder.now in
    let w = c.in_ok-value.ensures in
    let h = c.made.ensures in
    let n = none_given g.D.Decoder.rules _ _ _ _ (sym c.if-is_there.false ∙ c.is_there.ensures) w.law in
    rw c.in-Default.is (record {
      law = default_added g.met.D.Decoder.lawful (tree_value c.in-Default.otherwise) _ _ x c.decode_open.new.decoder c.made.new.decoder c.made.result n h.law;
      behaves = record { again = λ q. absurd (w.behaves.again q); fails = h.fails; kept = h.kept ∙ w.behaves.kept };
    })

pub decode_kind-returns-in-Simple : goal.decode_kind-returns-in-Simple
decode_kind-returns-in-Simple g t c =
    let ts = c.args.kinds.now in
    let s = c.in-Simple.simple in
    let n = g.D.Decoder.rules.levels c.args.decoder.now in
    let there = plain_there ts c.args.place (SimpleKind s) (c.requires ∙ ap Some c.in-Simple.is) (λ j e. absurd (cc)) in
    reads_same _ _ _ _ _ (there n ∙ simple_plain ts s n) c.decode_leaf.ensures

pub decode_elements-next_element_in_turn-requires : goal.decode_elements-next_element_in_turn-requires
decode_elements-next_element_in_turn-requires g t c = record { in_turn = record { element = _; size = _; mark = _; before = _; taken = _; stands = c.loop-values.invariant.amid } }

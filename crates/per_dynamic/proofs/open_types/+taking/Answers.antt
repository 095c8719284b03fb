use Rattle.std.proofs.Common.{◌≡◌, ◌∙◌, refl, sym, ap, subst, ◌+◌, ◌<◌, ◌≤◌, ℕ, suc, length, List, Option, Some, None, option_map, IfOk, arith, rules}
use Rattle.std.specs.Prelude.{slice_get}
use Rattle.std.proofs.lemmas.Result.{err_from_is_err_and}
use Rattle.rasn_dynamic.specs.declared.types.Kind.{Kind}
use Rattle.rasn_dynamic.specs.declared.types.ObjectSet.{ObjectSet}
use Rattle.rasn_dynamic.specs.declared.types.Row.{Row}
use Rattle.rasn_dynamic.specs.declared.values.Value.{Value}
use Rattle.per_dynamic.specs.OpenTypes.{chosen, each, Each, IsOpenRead, IsOpenWritten, IsRowValue, none, read, set_of, Takes, TakesOneBy, unknown}
use Rattle.per_dynamic.proofs.Taking.{bools, each_all, each_kept, each_map, each_put, field_left, no_level, ok_as, takes_below, takes_last, takes_told, unread_row, untaken}
use Rattle.per_dynamic.proofs.open_types.+taking.Goals as goal

pub take_at-returns-in-Some-clause-taken : goal.take_at-returns-in-Some-clause-taken
take_at-returns-in-Some-clause-taken t c =
    let n : c.args.levels ≡ suc c.in-Some.below = omega (arith, c.in-Some.ensures.0, c.in-Some.ensures.1) in
    ok_as c.take_within.result (λ y h. takes_below c.args.way c.args.types.now.kinds.items c.args.levels c.in-Some.below c.args.place c.args.value y n h) c.take_within.ensures.taken

pub take_at-returns-in-None-clause-taken : goal.take_at-returns-in-None-clause-taken
take_at-returns-in-None-clause-taken t c =
    takes_last c.args.way c.args.types.now.kinds.items c.args.levels c.args.place c.args.value c.args.value (no_level c.args.levels c.in-None.ensures) refl

pub take_values-loop-value-init : goal.take_values-loop-value-init
take_values-loop-value-init t c = (none, refl)

pub take_values-loop-value-preserved : goal.take_values-loop-value-preserved
take_values-loop-value-preserved t c =
    let h = rw (c.replace-own.ensures.value, ← c.value-item.is) at c.in_ok-value.ensures.taken in
    let few : c.loop-value.value-index < length c.args.values.now = omega (arith, c.loop-value-test.true, c.loop-value.auto.values) in
    let fits : c.loop-value.value-index < length c.loop-value.values = omega (arith, c.loop-value-test.true, c.loop-value.auto.values) in
    each_put _ c.loop-value.value-index c.args.values.now c.loop-value.values _ _ few fits c.value-item.is c.loop-value.invariant h

pub take_values-returns-clause-taken : goal.take_values-returns-clause-taken
take_values-returns-clause-taken t c =
    let h : length c.args.values.now ≤ c.loop-value.value-index = omega (arith, c.loop-value-test.false, c.loop-value.auto.values) in
    let g : length c.loop-value.values ≤ c.loop-value.value-index = omega (arith, c.loop-value-test.false, c.loop-value.auto.values) in
    each_all _ c.loop-value.value-index c.args.values.now c.loop-value.values h g c.loop-value.invariant.0

pub take_list-returns-in_ok-take_values-in-Elements-clause-taken : goal.take_list-returns-in_ok-take_values-in-Elements-clause-taken
take_list-returns-in_ok-take_values-in-Elements-clause-taken t c =
    each c.in-Elements.values _ c.in-Elements.is refl (each_kept c.in-Elements.values c.take_values.new.values (rw c.deref_mut.ensures.value at c.in_ok-take_values-in-Elements.ensures.taken))

pub take_set_of-returns-in_ok-take_values-in-Bag-clause-taken : goal.take_set_of-returns-in_ok-take_values-in-Bag-clause-taken
take_set_of-returns-in_ok-take_values-in-Bag-clause-taken t c =
    each c.in-Bag.values _ c.in-Bag.is refl (each_kept c.in-Bag.values c.take_values.new.values (rw c.deref_mut.ensures.value at c.in_ok-take_values-in-Bag.ensures.taken))

pub take_fields-loop-index-init : goal.take_fields-loop-index-init
take_fields-loop-index-init t c = (none, refl)

pub take_fields-loop-index-preserved : goal.take_fields-loop-index-preserved
take_fields-loop-index-preserved t c =
    let h = rw (c.replace-own.ensures.value, ← c.index-values-index.is, c.told_at-told.ensures, c.component_at-component.ensures) at c.in_ok-value.ensures.taken in
    let few : c.loop-index.index < length c.args.values.now = omega (arith, c.loop-index-test.true, c.loop-index.auto.values) in
    let fits : c.loop-index.index < length c.loop-index.values = omega (arith, c.loop-index-test.true, c.loop-index.auto.values) in
    each_put _ c.loop-index.index c.args.values.now c.loop-index.values _ _ few fits c.index-values-index.is c.loop-index.invariant h

pub take_field-returns-then-not-has_parts-clause-taken : goal.take_field-returns-then-not-has_parts-clause-taken
take_field-returns-then-not-has_parts-clause-taken t c =
    let e = c.if-not-has_parts.true in
    let no = c.has_parts.ensures in
    field_left c.args.value (no.octets e) (no.elements e) (no.bag e) (no.fields e) (no.alternative e) c.args.way c.args.types.now.kinds.items c.args.levels c.args.told _

pub take_record-returns-in_ok-take_fields-in-Fields-2-clause-taken : goal.take_record-returns-in_ok-take_fields-in-Fields-2-clause-taken
take_record-returns-in_ok-take_fields-in-Fields-2-clause-taken t c =
    let ts = c.args.types.now.kinds.items in
    let f = Takes c.args.way ts c.args.levels in
    let told = rw (c.root-own.ensures, c.deref.ensures.value, c.deref-in-Fields.ensures.value) at c.in_ok-rows-in-Fields.ensures in
    let added = rw (c.root-own.ensures, c.behind-added.ensures, c.deref-in-Fields-2.ensures.value, c.deref-in-Fields-3.ensures.value) at c.in_ok-added_rows-in-Fields.ensures in
    each c.in-Fields.root c.in-Fields.additions _ _ c.in-Fields.is refl
    (each_kept c.in-Fields.root c.take_fields.new.values (each_map (λ k x y h. takes_told c.args.way ts f _ _ _ _ k x y told h)
    (rw (c.root-own.ensures, c.deref-in-Fields-4.ensures.value, c.deref_mut.ensures.value) at c.in_ok-take_fields-in-Fields.ensures.taken)))
    (each_kept c.in-Fields.additions c.take_fields-in-Fields.new.values (each_map (λ k x y h. takes_told c.args.way ts f _ _ _ _ k x y added h)
    (rw (c.behind-added.ensures, c.deref-in-Fields-5.ensures.value, c.deref_mut-in-Fields.ensures.value) at c.in_ok-take_fields-in-Fields-2.ensures.taken)))

pub take_choice-returns-in_ok-chosen-in-Some-clause-taken : goal.take_choice-returns-in_ok-chosen-in-Some-clause-taken
take_choice-returns-in_ok-chosen-in-Some-clause-taken t c =
    chosen c.in-Alternative.place c.in-Some.alternative.now c.in-Alternative.chosen _ c.in-Some.ensures c.in-Alternative.is refl
    (rw (c.replace-own.ensures.value, c.deref_mut.ensures.value) at c.in_ok-chosen-in-Some.ensures.taken)

pub take_choice-returns-in-None-clause-taken : goal.take_choice-returns-in-None-clause-taken
take_choice-returns-in-None-clause-taken t c = unknown c.in-Alternative.place c.in-Alternative.chosen c.in-None.ensures c.in-Alternative.is (sym c.in-Alternative.is)

pub take_open-returns-then-way-clause-taken : goal.take_open-returns-then-way-clause-taken
take_open-returns-then-way-clause-taken t c =
    let e = c.if-way.true in
    ok_as c.read_open.result (λ y h. ((λ z. h), (λ z. absurd (bools e z)))) c.read_open.ensures.taken

pub take_open-returns-else-way-clause-taken : goal.take_open-returns-else-way-clause-taken
take_open-returns-else-way-clause-taken t c =
    let e = c.if-way.false in
    ok_as c.write_open.result (λ y h. ((λ z. absurd (bools z e)), (λ z. h))) c.write_open.ensures.taken

pub read_open-returns-in_ok-new-in-Some-2-clause-taken : goal.read_open-returns-in_ok-new-in-Some-2-clause-taken
read_open-returns-in_ok-new-in-Some-2-clause-taken t c =
    let r = c.in-Some-row_at_index.row.now in
    let e = ap (λ (rs : List Row). slice_get rs c.in-Some.index) (sym c.deref.ensures.value) ∙ sym c.row_at_index.ensures ∙ ap (option_map (λ r. r.now)) c.in-Some-row_at_index.is in
    IsOpenRead.row c.in-Some.index r c.in-Some-octets_of.octets.now (Some c.in-Some-2.read) c.in-Some.is e c.in-Some-octets_of.ensures.some
    (rw c.in-Some-2.is at c.in_ok-read.ensures.taken) (c.in_ok-new-in-Some-2.field-0, refl, c.in_ok-new-in-Some-2.ensures.ok)

pub read_open-returns-in-None-clause-taken : goal.read_open-returns-in-None-clause-taken
read_open-returns-in-None-clause-taken t c =
    let r = c.in-Some-row_at_index.row.now in
    let e = ap (λ (rs : List Row). slice_get rs c.in-Some.index) (sym c.deref.ensures.value) ∙ sym c.row_at_index.ensures ∙ ap (option_map (λ r. r.now)) c.in-Some-row_at_index.is in
    IsOpenRead.row c.in-Some.index r c.in-Some-octets_of.octets.now None c.in-Some.is e c.in-Some-octets_of.ensures.some
    (rw c.in-None.is at c.in_ok-read.ensures.taken) refl

pub row_value-returns-in_ok-taken-in-Ok-clause-taken : goal.row_value-returns-in_ok-taken-in-Ok-clause-taken
row_value-returns-in_ok-taken-in-Ok-clause-taken t c = read c.in-Ok.read c.in-Ok.ensures.ok c.in_ok-taken-in-Ok.ensures.taken

pub row_value-returns-in-Err-clause-taken : goal.row_value-returns-in-Err-clause-taken
row_value-returns-in-Err-clause-taken t c =
    ok_as c.unread.result (λ y h. unread_row c.args.way c.args.types.now.kinds.items (Takes c.args.way c.args.types.now.kinds.items c.args.levels) c.args.row.now c.args.octets.now y h.1 (c.in-Err.ensures.err h.0)) c.unread.ensures.none

pub write_open-returns-in-Some-clause-taken : goal.write_open-returns-in-Some-clause-taken
write_open-returns-in-Some-clause-taken t c =
    IsOpenWritten.row c.in-Alternative.place c.in-Some.row.now c.in-Alternative.chosen _ c.in-Alternative.is c.in-Some.ensures
    (rw (c.replace-own.ensures.value, c.deref_mut.ensures.value) at c.in_ok-octets-in-Some.ensures.taken) (search rules)

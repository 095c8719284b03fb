use Rattle.std.proofs.Common.{◌≡◌, ◌∙◌, ◌<◌, ◌^◌, arith, refl, rules, true, false, Some, Ok}
use Rattle.std.proofs.lemmas.Result.{IfOk-weaker}
use Rattle.rasn_schema.specs.Enumerations.{addeds_of, is_extensible}
use Rattle.per_decoding.specs.ChoiceIndexes.{index_of}
use Rattle.per_read.specs.ReaderState.{settings_of}
use Rattle.per_read.proofs.Calls.{answers, if_some}
use Rattle.per_decoding.proofs.Enumerations.{no_place_past, no_root_added, no_root_bit, no_root_place}
use Rattle.per_decoding.proofs.Indexes.{index_there, unknown_past}
use Rattle.per_decoding.proofs.ShortNumbers.{if_none}
use Rattle.per_decoding.proofs.choices.take_root_index.Goals as goal

pub returns-clause-took : goal.returns-clause-took
returns-clause-took c =
    let a = settings_of c.args.reader.now in
    let r = c.args.roots in
    let e = addeds_of c.args.addeds in
    let ext = is_extensible c.args.addeds in
    let bit = rw (c.has_marker.ensures, c.in-Ok-false.is, c.in-Ok-false.field-0-test) at c.take_extension_bit.ensures in
    let h = c.in_ok-place.ensures.took in
    let few : r < 2 ^ 64 = omega (arith, c.ranges.roots.fits) in
    let place = rw bit.kept at h.ok in
    if_some _ c.place_at_index.result c.ok.ensures.value
    (IfOk-weaker _ _ _ (λ x i. answers x (h.kept ∙ bit.kept) (index_there a r e ext false bit.ok (Some c.in_ok-place.place) (index_of x) few place i)) c.place_at_index.ensures.ok)

pub returns-in_default-clause-none : goal.returns-in_default-clause-none
returns-in_default-clause-none c e =
    let is : c.take_extension_bit.result ≡ Ok true = search rules in
    let bit = rw (c.has_marker.ensures, is) at c.take_extension_bit.ensures in
    no_root_added _ c.args.roots (addeds_of c.args.addeds) (is_extensible c.args.addeds) bit.ok

pub returns-in_default-2-clause-none : goal.returns-in_default-2-clause-none
returns-in_default-2-clause-none c e =
    let bit = rw (c.has_marker.ensures, c.in_default.is) at c.take_extension_bit.ensures in
    no_root_bit _ c.args.roots (addeds_of c.args.addeds) (is_extensible c.args.addeds) bit.err.1

pub returns-in_err-place-clause-none : goal.returns-in_err-place-clause-none
returns-in_err-place-clause-none c e =
    let bit = rw (c.has_marker.ensures, c.in-Ok-false.is, c.in-Ok-false.field-0-test) at c.take_extension_bit.ensures in
    let none = rw bit.kept at c.in_err-place.ensures.none in
    no_root_place _ c.args.roots (addeds_of c.args.addeds) (is_extensible c.args.addeds) bit.ok (none refl)

pub returns-clause-none : goal.returns-clause-none
returns-clause-none c e =
    let r = c.args.roots in
    let bit = rw (c.has_marker.ensures, c.in-Ok-false.is, c.in-Ok-false.field-0-test) at c.take_extension_bit.ensures in
    let place = rw bit.kept at c.in_ok-place.ensures.took.ok in
    let q = if_none _ c.place_at_index.result c.ok.ensures.value e c.place_at_index.ensures.err in
    no_root_place _ r (addeds_of c.args.addeds) (is_extensible c.args.addeds) bit.ok (no_place_past _ r c.in_ok-place.place place (unknown_past r c.in_ok-place.place q.0 q.1))

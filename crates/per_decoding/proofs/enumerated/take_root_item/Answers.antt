use Rattle.std.proofs.Common.{◌≡◌, ◌∙◌, ◌<◌, ◌^◌, arith, refl, rules, true, false, Some, Ok}
use Rattle.std.proofs.lemmas.Result.{IfOk-weaker}
use Rattle.per_read.specs.ReaderState.{settings_of}
use Rattle.per_read.proofs.Calls.{answers, if_some}
use Rattle.per_decoding.proofs.Enumerations.{item_there, missing_past, no_place_past, no_root_added, no_root_bit, no_root_place}
use Rattle.per_decoding.proofs.ShortNumbers.{if_none}
use Rattle.per_decoding.proofs.enumerated.take_root_item.Goals as goal
use Rattle.per_decoding.proofs.enumerated.take_root_item.Goals.{in_default-via-in-Ok+then-take_extension_bit, in_default-via-in_default}

pub returns-clause-took : goal.returns-clause-took
returns-clause-took g c =
    let a = settings_of c.args.reader.now in
    let r = g.E.Enumerated.roots in
    let e = g.E.Enumerated.addeds in
    let ext = g.E.Enumerated.EXTENSIBLE in
    let bit = rw (c.EXTENSIBLE.ensures, c.in-Ok-false.is, c.in-Ok-false.field-0-test) at c.take_extension_bit.ensures in
    let h = c.in_ok-place.ensures.took in
    let few : r < 2 ^ 64 = omega (arith, c.item_count.ensures) in
    let place = rw (c.item_count.ensures, bit.kept) at h.ok in
    if_some _ c.item_at.result c.ok.ensures.value
    (IfOk-weaker _ _ _ (λ x i. answers x (h.kept ∙ bit.kept) (item_there a r e ext false bit.ok g.E.AsnType.value (Some c.in_ok-place.place) x few place i)) c.item_at.ensures.ok)

pub returns-in_default-clause-none : goal.returns-in_default-clause-none
returns-in_default-clause-none g c e =
    let a = settings_of c.args.reader.now in
    let r = g.E.Enumerated.roots in
    let adds = g.E.Enumerated.addeds in
    let ext = g.E.Enumerated.EXTENSIBLE in
    elim c.in_default.branch [
      | in_default-via-in-Ok+then-take_extension_bit w ↦
          let is : c.take_extension_bit.result ≡ Ok true = search rules in
          let bit = rw (c.EXTENSIBLE.ensures, is) at c.take_extension_bit.ensures in
          no_root_added a r adds ext bit.ok
      | in_default-via-in_default w ↦
          let bit = rw (c.EXTENSIBLE.ensures, w.in_default.is) at c.take_extension_bit.ensures in
          no_root_bit a r adds ext bit.err.1
    ]

pub returns-in_err-place-clause-none : goal.returns-in_err-place-clause-none
returns-in_err-place-clause-none g c e =
    let bit = rw (c.EXTENSIBLE.ensures, c.in-Ok-false.is, c.in-Ok-false.field-0-test) at c.take_extension_bit.ensures in
    let none = rw (c.item_count.ensures, bit.kept) at c.in_err-place.ensures.none in
    no_root_place _ g.E.Enumerated.roots g.E.Enumerated.addeds g.E.Enumerated.EXTENSIBLE bit.ok (none refl)

pub returns-clause-none : goal.returns-clause-none
returns-clause-none g c e =
    let r = g.E.Enumerated.roots in
    let adds = g.E.Enumerated.addeds in
    let bit = rw (c.EXTENSIBLE.ensures, c.in-Ok-false.is, c.in-Ok-false.field-0-test) at c.take_extension_bit.ensures in
    let place = rw (c.item_count.ensures, bit.kept) at c.in_ok-place.ensures.took.ok in
    let q = if_none _ c.item_at.result c.ok.ensures.value e c.item_at.ensures.err in
    no_root_place _ r adds g.E.Enumerated.EXTENSIBLE bit.ok (no_place_past _ r c.in_ok-place.place place (missing_past r c.in_ok-place.place q.0 q.1))

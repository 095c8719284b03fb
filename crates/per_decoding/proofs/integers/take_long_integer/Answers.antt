use Rattle.std.proofs.Common.{◌≡◌, ◌<◌, inr, arith, sym, ap, ◌∙◌, length}
use Rattle.std.proofs.lemmas.Bool.Decides.{nat_tests}
use Rattle.rasn_types.specs.Bits.{signed}
use Rattle.rasn_constraints.specs.Bounds.{holds}
use Rattle.per_read.proofs.Calls.{answers, refuses, passes_on}
use Rattle.per_read.proofs.OneByOne.{no_more}
use Rattle.per_read.proofs.Refusals.{faulty_map}
use Rattle.per_decoding.proofs.Marks.{octets_number_said}
use Rattle.per_read.proofs.Unbounded.{no_length_no_number, no_octets_no_number, out_of_range_no_number, none_there, octets_number, unheld_octets}
use Rattle.per_decoding.proofs.integers.take_long_integer.Goals as goal

pub returns-in_err-octets : goal.returns-in_err-octets
returns-in_err-octets g c =
    let h = c.in_err-octets.ensures in
    passes_on _ _ c.from_residual.ensures.1 h.kept (faulty_map _ (octets_number_said _ _ _ _) (no_length_no_number _ _ _) h.err)

pub returns-then-is_empty : goal.returns-then-is_empty
returns-then-is_empty g c =
    let l : length c.in_ok-octets.octets.items ≡ 0 = grind (arith, nat_tests) in
    let e = no_more c.in_ok-octets.octets.items l in
    let b = c.in_ok-octets.ensures in
    refuses _ b.kept (inr (record { rest = _; took = none_there _ _ _ _ b.ok e }, no_octets_no_number _ _ _ _ _ b.ok e))

pub returns-in-Some : goal.returns-in-Some
returns-in-Some g c =
    let l : 0 < length c.in_ok-octets.octets.items = grind (arith, nat_tests) in
    let h = rw c.in-Some.is at c.in_ok-number.ensures in
    let b = c.in_ok-octets.ensures in
    answers _ b.kept (octets_number _ _ _ _ _ _ b.ok l (ap signed (sym c.deref.ensures.value) ∙ sym h.0) h.1)

pub returns : goal.returns
returns g c =
    let h = rw c.in-None.is at c.in_ok-number.ensures in
    let b = c.in_ok-octets.ensures in
    let l : 0 < length c.in_ok-octets.octets.items = grind (arith, nat_tests) in
    let none = out_of_range_no_number _ g.I.IntegerType.range _ _ _ b.ok (ap (λ z. holds g.I.IntegerType.range (signed z)) (sym c.deref.ensures.value) ∙ h) in
    refuses _ b.kept (inr (unheld_octets _ g.I.IntegerType.range _ b.ok l (none _ _), none))

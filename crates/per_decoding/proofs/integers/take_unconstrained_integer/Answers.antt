use Rattle.std.proofs.Common.{◌∙◌, ◌<◌, inr, sym, ap, arith, length, FitsSigned}
use Rattle.std.specs.Int.{w128}
use Rattle.std.proofs.lemmas.Int.{to_z-of_z}
use Rattle.rasn_constraints.specs.Bounds.{holds}
use Rattle.per_read.proofs.Calls.{answers, from_start, refuses, passes_on}
use Rattle.per_decoding.proofs.Marks.{octets_number_said}
use Rattle.per_read.proofs.Unbounded.{no_length_no_number, octets_number, out_of_range_no_number, unheld_octets}
use Rattle.per_decoding.proofs.integers.take_unconstrained_integer.Goals as goal

pub returns-in_err-octets : goal.returns-in_err-octets
returns-in_err-octets g c =
    let h = c.in_err-octets.ensures in
    passes_on _ _ c.from_residual.ensures.1 h.kept (inr (octets_number_said _ _ _ _ h.err.0, no_length_no_number _ _ _ h.err.1))

pub returns-in_default : goal.returns-in_default
returns-in_default g c =
    let h = c.in_ok-octets.ensures in
    from_start (rw c.in_default.is at h.ok) h.kept c.take_long_integer.ensures

pub signed-requires : goal.signed-requires
signed-requires g c =
    let few = rw c.in-Some.is at c.in_ok-octets.ensures.ok in
    (few.octets, few.are)

pub returns-in-None : goal.returns-in-None
returns-in-None g c =
    let h = c.in_ok-octets.ensures in
    let few = rw c.in-Some.is at h.ok in
    let fits : FitsSigned w128 c.signed.result = record { sfits = c.signed.type_inv } in
    let e = to_z-of_z w128 c.signed.result fits ∙ c.signed.ensures few.octets few.are in
    let some : 0 < length few.octets = omega (arith, few.are.count, few.are.some) in
    let none = out_of_range_no_number _ g.I.IntegerType.range _ few.octets _ few.took (ap (λ z. holds g.I.IntegerType.range z) (sym e) ∙ c.in-None.ensures) in
    refuses _ h.kept (inr (unheld_octets _ g.I.IntegerType.range few.octets few.took some (none _ _), none))

pub returns-in-Some-try_from_i128 : goal.returns-in-Some-try_from_i128
returns-in-Some-try_from_i128 g c =
    let h = c.in_ok-octets.ensures in
    let few = rw c.in-Some.is at h.ok in
    let fits : FitsSigned w128 c.signed.result = record { sfits = c.signed.type_inv } in
    let e = to_z-of_z w128 c.signed.result fits ∙ c.signed.ensures few.octets few.are in
    let held = rw c.in-Some-try_from_i128.is at c.try_from_i128.ensures in
    let some : 0 < length few.octets = omega (arith, few.are.count, few.are.some) in
    answers _ h.kept (octets_number _ _ _ few.octets _ _ few.took some (sym (held.0 ∙ e)) held.1)

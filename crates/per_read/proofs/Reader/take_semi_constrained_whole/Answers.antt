use Rattle.std.proofs.Common.{◌<◌, Some, inr, sym, arith, length}
use Rattle.per_read.proofs.Calls.{answers, from_start, passes_on}
use Rattle.per_read.proofs.Naturals.{no_length_no_natural, natural_of}
use Rattle.per_read.proofs.OfFields.{of_octets}
use Rattle.per_read.proofs.Reader.take_semi_constrained_whole.Goals as goal

pub returns-in_err-octets : goal.returns-in_err-octets
returns-in_err-octets c =
    let h = c.in_err-octets.ensures in
    passes_on _ _ c.from_residual.ensures.1 h.kept (inr (of_octets _ _ _ h.err.0, no_length_no_natural _ _ h.err.1))

pub returns-in-Some : goal.returns-in-Some
returns-in-Some c =
    let h = c.in_ok-octets.ensures in
    let few = rw c.in-Some.is at h.ok in
    let some : 0 < length few.octets = omega (arith, few.are.count, few.are.some) in
    answers _ h.kept (natural_of _ _ few.octets (Some c.in-Some.octets.number) _ few.took some (sym few.are.means))

pub returns-in-None : goal.returns-in-None
returns-in-None c =
    let h = c.in_ok-octets.ensures in
    from_start (rw c.in-None.is at h.ok) h.kept c.take_long_natural.ensures

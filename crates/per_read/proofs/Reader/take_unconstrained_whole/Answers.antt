use Rattle.std.proofs.Common.{◌∙◌, ◌<◌, inr, arith, length, FitsSigned, to_z, of_z}
use Rattle.std.specs.Int.{w128}
use Rattle.std.proofs.lemmas.Int.{to_z-of_z}
use Rattle.per_read.specs.ReaderState.{settings_of}
use Rattle.per_read.specs.declared.numbers.ReadNumber.TheVariants.{Held}
use Rattle.per_read.proofs.Calls.{answers, from_start, passes_on}
use Rattle.per_read.proofs.OfFields.{of_octets}
use Rattle.per_read.proofs.NumbersUnderBounds.{no_length_no_whole, octets_whole}
use Rattle.per_read.proofs.Reader.take_unconstrained_whole.Goals as goal

pub returns-in_err-octets : goal.returns-in_err-octets
returns-in_err-octets c =
    let h = c.in_err-octets.ensures in
    passes_on _ _ c.from_residual.ensures.1 h.kept (inr (of_octets _ _ _ h.err.0, no_length_no_whole _ _ h.err.1))

pub signed-requires : goal.signed-requires
signed-requires c =
    let few = rw c.in-Some.is at c.in_ok-octets.ensures.ok in
    (few.octets, few.are)

pub returns-in-Some : goal.returns-in-Some
returns-in-Some c =
    let h = c.in_ok-octets.ensures in
    let few = rw c.in-Some.is at h.ok in
    let some : 0 < length few.octets = omega (arith, few.are.count, few.are.some) in
    let fits : FitsSigned w128 c.signed.result = record { sfits = c.signed.type_inv } in
    let e = to_z-of_z w128 c.signed.result fits ∙ c.signed.ensures few.octets few.are in
    answers _ h.kept (octets_whole (settings_of c.args.self.now) _ few.octets _ few.took some (Held (to_z w128 (of_z w128 c.signed.result))) e)

pub returns-in-None : goal.returns-in-None
returns-in-None c =
    let h = c.in_ok-octets.ensures in
    from_start (rw c.in-None.is at h.ok) h.kept c.take_long_whole.ensures

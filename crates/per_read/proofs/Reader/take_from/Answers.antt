use Rattle.std.proofs.lemmas.Int.{to_z-of_z}
use Rattle.per_read.specs.ReaderState.{settings_of}
use Rattle.per_read.proofs.Calls.{answers, passes_on}
use Rattle.per_read.proofs.Fields.{when_took}
use Rattle.per_read.proofs.Refusals.{faulty_map}
use Rattle.per_read.proofs.NumbersUnderBounds.{far_from, from_took}
use Rattle.per_read.proofs.Reader.take_from.Goals as goal

pub returns-in_err-offset : goal.returns-in_err-offset
returns-in_err-offset c =
    passes_on _ _ c.from_residual.ensures.1 c.in_err-offset.ensures.kept (faulty_map _ (λ h. h) (λ none z t b. none _ t (when_took b).1) c.in_err-offset.ensures.err)

pub returns-in-Some : goal.returns-in-Some
returns-in-Some c =
    let f = c.ranges.lower in
    let n = simp to_z-of_z at c.number_above.ensures in
    let h = c.in_ok-offset.ensures in
    answers _ h.kept (from_took (settings_of c.args.self.now) c.args.lower c.in-Some.offset (rw c.in-Some.is at h.ok) c.number_above.result n)

pub returns-in-None : goal.returns-in-None
returns-in-None c =
    let h = c.in_ok-offset.ensures in
    answers _ h.kept (far_from _ c.args.lower c.ranges.lower _ _ (rw c.in-None.is at h.ok))

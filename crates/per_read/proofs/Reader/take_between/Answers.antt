use Rattle.std.proofs.lemmas.Int.{to_z-of_z}
use Rattle.per_read.specs.ReaderState.{settings_of}
use Rattle.per_read.proofs.Calls.{answers, passes_on}
use Rattle.per_read.proofs.NumbersUnderBounds.{above_took, between_took}
use Rattle.per_read.proofs.OfFields.{as_many}
use Rattle.per_read.proofs.Reader.take_between.Goals as goal

pub returns-in_err-offset : goal.returns-in_err-offset
returns-in_err-offset c =
    let f = c.ranges.lower in
    let g = c.ranges.upper in
    let d = simp to_z-of_z at c.distance_above.ensures in
    let h = c.in_err-offset.ensures.err in
    passes_on _ _ c.from_residual.ensures.1 c.in_err-offset.ensures.kept (as_many (settings_of c.args.self.now) c.args.self.now.bits _ d h.0, λ z t b. h.1 _ t (between_took (settings_of c.args.self.now) c.args.lower c.args.upper z d b))

pub returns : goal.returns
returns c =
    let f = c.ranges.lower in
    let g = c.ranges.upper in
    let d = simp to_z-of_z at c.distance_above.ensures in
    let n = simp to_z-of_z at c.number_above.ensures in
    answers _ c.in_ok-offset.ensures.kept (above_took (settings_of c.args.self.now) c.args.lower c.args.upper c.in_ok-offset.offset d c.in_ok-offset.ensures.ok c.number_above.result n)

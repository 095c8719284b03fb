use Rattle.std.proofs.Common.{subst, sym, refl, ◌+◌, ℕ}
use Rattle.std.proofs.lemmas.Int.{to_z-of_z}
use Rattle.rasn_constraints.specs.Bounds.{above}
use Rattle.per_core.specs.Spellings.{Took}
use Rattle.per_read.specs.Numbers.{in_one_field}
use Rattle.per_read.specs.ReaderState.{settings_of}
use Rattle.per_read.proofs.Fields.{when_took}
use Rattle.per_read.proofs.Reader.take_short_between.Goals as goal

pub returns-in_err-offset-clause-none : goal.returns-in_err-offset-clause-none
returns-in_err-offset-clause-none c none z t b =
    let f = c.ranges.lower in
    let g = c.ranges.upper in
    let d = simp to_z-of_z at c.distance_above.ensures in
    let a = settings_of c.args.self.now in
    c.in_err-offset.ensures.none refl (above c.args.lower z) t
    (subst (λ (k : ℕ). Took (in_one_field a (k + 1) (above c.args.lower z)) c.args.self.now.bits t) (sym d) (when_took b).1)

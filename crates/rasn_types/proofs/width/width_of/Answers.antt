use Rattle.std.proofs.Common.{◌≡◌, ◌∙◌, refl, ap, ℕ, zero, suc, ◌+◌, ◌<◌, arith}
use Rattle.rasn_types.specs.Bits.{width}
use Rattle.rasn_types.proofs.Widths.{width_of_last}
use Rattle.rasn_types.proofs.width.width_of.Goals as goal

of_none : (count : ℕ) → count < 1 → 0 ≡ width count
unfolding width
of_none zero h = refl
of_none (suc n) h = absurd (omega arith)

pub returns-in-Some-clause-width : goal.returns-in-Some-clause-width
returns-in-Some-clause-width c = (let h = c.ranges.count.fits in width_of_last c.in-Some.last (omega (arith, c.in-Some.ensures))) ∙ ap width (let e : c.in-Some.last + 1 ≡ c.args.count = omega (arith, c.in-Some.ensures) in e)

pub returns-in-None-clause-width : goal.returns-in-None-clause-width
returns-in-None-clause-width c = of_none c.args.count (omega (arith, c.in-None.ensures))

use Rattle.std.proofs.Common.{ap, ◌∙◌, ℕ, ◌-◌}
use Rattle.rasn_types.proofs.Widths.{width_of_last}
use Rattle.rasn_types.proofs.width.width_to.Goals as goal

pub returns-clause-width : goal.returns-clause-width
returns-clause-width c = ap (λ (zeros : ℕ). 128 - zeros) c.from.ensures ∙ width_of_last c.args.greatest c.ranges.greatest.fits

use Rattle.std.proofs.Common.{arith}
use Rattle.rasn_types.proofs.Bits.{width_least}
use Rattle.per_write.proofs.choices.index_width.Goals as goal

pub returns-clause-few : goal.returns-clause-few
returns-clause-few c = omega (arith, c.width_of.ensures.width, width_least c.args.count 64 (omega (arith, c.ranges.count.fits)))

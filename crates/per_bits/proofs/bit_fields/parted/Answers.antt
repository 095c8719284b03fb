use Rattle.std.proofs.Common.{arith, pow_mono}
use Rattle.std.proofs.lemmas.Nat.{one_shl}
use Rattle.per_bits.proofs.Lanes.{moved_up}
use Rattle.per_bits.proofs.bit_fields.parted.Goals as goal

pub overflow_sub-result : goal.overflow_sub-result
overflow_sub-result c = omega (arith, one_shl c.args.size 64 (omega arith), one_shl c.args.width 64 (omega arith), pow_mono {i = c.args.width} {j = c.args.size} c.requires.width)

pub overflow_mul-result : goal.overflow_mul-result
overflow_mul-result c = omega (arith, (moved_up c.args.width c.args.size c.args.lower c.args.word c.requires.width c.requires.size c.requires.whole (omega (arith, c.ranges.word.fits)) c.requires.lower c.requires.narrow).below)

pub overflow_add-result : goal.overflow_add-result
overflow_add-result c = omega (arith, (moved_up c.args.width c.args.size c.args.lower c.args.word c.requires.width c.requires.size c.requires.whole (omega (arith, c.ranges.word.fits)) c.requires.lower c.requires.narrow).below)

pub returns : goal.returns
returns c = (moved_up c.args.width c.args.size c.args.lower c.args.word c.requires.width c.requires.size c.requires.whole (omega (arith, c.ranges.word.fits)) c.requires.lower c.requires.narrow).parted

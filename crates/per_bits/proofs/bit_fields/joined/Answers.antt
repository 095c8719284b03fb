use Rattle.std.proofs.Common.{◌-◌, ◌/◌, ℕ, pow_mono, subst, sym, arith}
use Rattle.std.proofs.lemmas.Nat.{one_shl}
use Rattle.per_bits.specs.Lanes.{Joined}
use Rattle.per_bits.proofs.Lanes.{are_joined, moved_down, uppers_below}
use Rattle.per_bits.proofs.bit_fields.joined.Goals as goal

pub overflow_mul-result : goal.overflow_mul-result
overflow_mul-result c =
    omega (arith, moved_down c.args.width c.args.size c.args.lower c.args.word c.requires.width c.requires.size c.requires.lower, uppers_below c.args.width c.args.size (32 / c.args.size) c.args.word c.requires.width, c.ranges.word.fits)

pub overflow_sub-result-2 : goal.overflow_sub-result-2
overflow_sub-result-2 c =
    omega (arith, moved_down c.args.width c.args.size c.args.lower c.args.word c.requires.width c.requires.size c.requires.lower, uppers_below c.args.width c.args.size (32 / c.args.size) c.args.word c.requires.width)

pub overflow_sub-result : goal.overflow_sub-result
overflow_sub-result c = omega (arith, one_shl c.args.size 64 (omega arith), one_shl c.args.width 64 (omega arith), pow_mono {i = c.args.width} {j = c.args.size} c.requires.width)

pub returns : goal.returns
returns c = subst (λ (m : ℕ). Joined c.args.width c.args.size (32 / c.args.size) c.args.word (c.args.word - m)) (sym (moved_down c.args.width c.args.size c.args.lower c.args.word c.requires.width c.requires.size c.requires.lower))
    (are_joined c.args.width c.args.size (32 / c.args.size) c.args.word c.requires.width c.requires.narrow)

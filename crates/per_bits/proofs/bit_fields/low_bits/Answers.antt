use Rattle.std.proofs.Common.{◌∙◌, ap, ◌-◌, bit_and, ℕ, arith}
use Rattle.std.proofs.lemmas.Nat.{one_shl, and_mask}
use Rattle.per_bits.proofs.bit_fields.low_bits.Goals as goal

pub returns : goal.returns
returns c = ap (λ (m : ℕ). bit_and c.args.word (m - 1)) (one_shl c.args.width 64 (omega arith)) ∙ and_mask c.args.word c.args.width

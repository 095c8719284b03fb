use Rattle.std.proofs.Common.{◌≡◌, ◌∙◌, subst, sym, ℕ, ◌+◌, ◌-◌, ◌≤◌, ◌/◌, FitsSigned, to_z-of_z}
use Rattle.std.specs.Int.{w128}
use Rattle.rasn_types.specs.Bits.{octets_of_whole}
use Rattle.rasn_types.proofs.Integers.{count_of_natural, count_of_negative, octets_of_i128}
use Rattle.rasn_types.proofs.integer.octet_count.Goals as goal
use Rattle.rasn_types.proofs.integer.octet_count.Goals.{then-value-lt0, else-value-lt0}

pub returns : goal.returns
returns c = record { value = counted; few = subst (λ (k : ℕ). k ≤ 16) (sym counted) (octets_of_i128 c.args.value c.ranges.value) }
  where
    counted : (128 - c.if-value-lt0.sign_bits) / 8 + 1 ≡ octets_of_whole c.args.value
    counted = let fits : FitsSigned w128 c.args.value = c.ranges.value in elim c.if-value-lt0.branch [
      | then-value-lt0 w ↦ count_of_negative c.args.value _ (simp to_z-of_z at w.if-value-lt0.true) fits (w.sign_bits-is ∙ (simp to_z-of_z at w.leading_ones-sign_bits.ensures))
      | else-value-lt0 w ↦ count_of_natural c.args.value _ (simp to_z-of_z at w.if-value-lt0.false) fits (w.sign_bits-is ∙ (simp to_z-of_z at w.leading_zeros-sign_bits.ensures))
    ]

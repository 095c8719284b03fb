use Rattle.std.proofs.Common.{◌∙◌, ◌≡◌, ◌≤◌, ◌/◌, ◌+◌, ℕ, sym, subst, FitsSigned, to_z-of_z}
use Rattle.std.specs.Int.{w128}
use Rattle.rasn_types.specs.Bits.{octets_of_whole}
use Rattle.rasn_types.proofs.Integers.{octets_of_i128}
use Rattle.per_pieces.proofs.Wholes.{octets_from_zero, octets_from_minus_one}
use Rattle.per_pieces.proofs.numbers.whole_octet_count.Goals as goal
use Rattle.per_pieces.proofs.numbers.whole_octet_count.Goals.{then-number-lt0, else-number-lt0}

pub returns : goal.returns
returns c = record { count = counted; few = subst (λ (k : ℕ). k ≤ 16) (sym counted) (octets_of_i128 c.args.number c.ranges.number) }
  where
    counted : c.width_to.result / 8 + 1 ≡ octets_of_whole c.args.number
    counted = let fits : FitsSigned w128 c.args.number = c.ranges.number in elim c.if-number-lt0.branch [
      | then-number-lt0 w ↦ octets_from_minus_one c.args.number _ _ (simp to_z-of_z at w.if-number-lt0.true) (w.beyond-is ∙ (simp to_z-of_z at w.distance_above-beyond.ensures)) c.width_to.ensures.width
      | else-number-lt0 w ↦ octets_from_zero c.args.number _ _ (simp to_z-of_z at w.if-number-lt0.false) (w.beyond-is ∙ (simp to_z-of_z at w.distance_above-beyond-else-number-lt0.ensures)) c.width_to.ensures.width
    ]

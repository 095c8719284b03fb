-- Whole numbers without bounds, as they are written where an `i128` holds them.
use Rattle.std.proofs.Common.{◌≡◌, refl, sym, ap, ◌∙◌, ℕ, suc, ◌+◌, ◌-◌, ◌*◌, ◌/◌, ◌%◌, ◌^◌, ◌<◌, ◌≤◌, true, false, arith, zero, ℤ, pos, negsuc, FitsSigned, ltb-true, mod-eq_of_lt, pow-add, pow_pos, subst, suc-mul}
use Rattle.std.proofs.lemmas.Nat.{mod_low}
use Rattle.std.specs.Int.{w128, cast_unsigned}
use lib.Signed.{mag, lt_z}
use Rattle.rasn_types.specs.Bits.{Bits, to_bits, width, octets_of_whole, twos_complement, whole_bits}
use Rattle.rasn_types.specs.Variants.{Variant}
use Rattle.rasn_types.proofs.Bits.{to_bits-same}
use Rattle.rasn_types.proofs.Integers.{octets_of_i128}
use Rattle.rasn_types.proofs.Octets.{length-whole_bits, mag_fits}
use Rattle.rasn_constraints.specs.Bounds.{above}
use Rattle.per_core.specs.Writers.{just, padding, ◌▹◌}
use Rattle.per_core.specs.Counts.{counted_octets, determinant}
use Rattle.per_pieces.specs.Pieces.{Appends, Pieces}
use Rattle.per_pieces.proofs.Bounded.{appends_counted}

-- X.691 11.4.6: the octets of a number by how far it is from 0 or from -1
pub octets_from_zero : (z : ℤ) (n w : ℕ) → lt_z z (pos 0) ≡ false → n ≡ above (pos 0) z → w ≡ width (n + 1) → w / 8 + 1 ≡ octets_of_whole z
unfolding octets_of_whole
octets_from_zero (pos m) n w h e d = let i : n ≡ m = omega arith in ap (λ (k : ℕ). k / 8 + 1) (d ∙ ap (λ (k : ℕ). width (k + 1)) i)
octets_from_zero (negsuc m) n w h e d = absurd cc

pub octets_from_minus_one : (z : ℤ) (n w : ℕ) → lt_z z (pos 0) ≡ true → n ≡ above z (negsuc 0) → w ≡ width (n + 1) → w / 8 + 1 ≡ octets_of_whole z
unfolding octets_of_whole
octets_from_minus_one (pos m) n w h e d = absurd (omega (arith, ltb-true m 0 h))
octets_from_minus_one (negsuc m) n w h e d = let i : n ≡ m = omega arith in ap (λ (k : ℕ). k / 8 + 1) (d ∙ ap (λ (k : ℕ). width (k + 1)) i)

one_less : (q p : ℕ) → 0 < q → (q - 1) * p + p ≡ q * p
one_less zero p h = absurd (omega arith)
one_less (suc q) p h = ap (λ (m : ℕ). m * p + p) (let e : suc q - 1 ≡ q = omega arith in e) ∙ sym (suc-mul q p)

-- an `i128` has the low bits of the number's two's complement
low_bits : (k : ℕ) (z : ℤ) → k ≤ 16 → mag z < 2 ^ (8 * k) → to_bits (8 * k) (twos_complement (8 * k) z) ≡ to_bits (8 * k) (cast_unsigned w128 z)
low_bits k (pos n) l h = refl
low_bits k (negsuc n) l h = to_bits-same (8 * k) (p - (n + 1)) (2 ^ 128 - suc n)
    (mod-eq_of_lt low ∙ sym (ap (λ (m : ℕ). m % p) split ∙ mod_low (q - 1) (8 * k) (p - (n + 1)) low))
  where
    p : ℕ
    p = 2 ^ (8 * k)

    q : ℕ
    q = 2 ^ (128 - 8 * k)

    low : p - (n + 1) < p
    low = omega arith

    whole : (q - 1) * p + p ≡ 2 ^ 128
    whole = one_less q p (pow_pos (128 - 8 * k)) ∙ sym (pow-add 2 (128 - 8 * k) (8 * k)) ∙ ap (λ (m : ℕ). 2 ^ m) (let e : 128 - 8 * k + 8 * k ≡ 128 = omega arith in e)

    split : 2 ^ 128 - suc n ≡ (q - 1) * p + (p - (n + 1))
    split = let e = whole in omega arith

whole_bits_are : (z : ℤ) (k u : ℕ) → FitsSigned w128 z → k ≡ octets_of_whole z → u ≡ cast_unsigned w128 z → whole_bits z ≡ to_bits (8 * k) u
unfolding whole_bits
whole_bits_are z k u f e d = low_bits (octets_of_whole z) z (octets_of_i128 z f) (mag_fits z)
    ∙ sym (ap (λ (m : ℕ). to_bits (8 * octets_of_whole z) m) d) ∙ sym (ap (λ (m : ℕ). to_bits (8 * m) u) e)

-- X.691 11.8: the fewest octets in two's complement after their count
pub appends_whole : (a : Variant) (x z : Pieces) (n : ℤ) (k u : ℕ) → FitsSigned w128 n → k ≡ octets_of_whole n → k ≤ 16 → u ≡ cast_unsigned w128 n →
    Appends x ((padding a ▹ just (determinant k)) ▹ just (to_bits (8 * k) u)) z → Appends x (counted_octets a (whole_bits n)) z
appends_whole a x z n k u f e l d p =
    appends_counted a x z (whole_bits n) k (length-whole_bits n ∙ ap (λ (m : ℕ). 8 * m) (sym e)) l
    (subst (λ (bs : Bits). Appends x ((padding a ▹ just (determinant k)) ▹ just bs) z) (sym (whole_bits_are n k u f e d)) p)

-- A few octets of a number, written with their count in one field.
use Rattle.std.proofs.Common.{◌≡◌, refl, sym, ap, ap₂, ◌∙◌, ℕ, ◌+◌, ◌*◌, ◌/◌, ◌%◌, ◌^◌, ◌<◌, ◌++◌, pow_pos, mod-lt}
use Rattle.std.proofs.lemmas.Nat.{mod_low, shr_high}
use Rattle.rasn_types.specs.Bits.{Bits, to_bits}
use Rattle.rasn_types.specs.Variants.{Variant}
use Rattle.rasn_types.proofs.Bits.{to_bits-same, to_bits-split}
use Rattle.per_core.specs.Writers.{just, padding, ◌▹◌}
use Rattle.per_core.specs.Counts.{determinant}
use Rattle.per_pieces.specs.Pieces.{Appends, Pieces, with_bits}
use Rattle.per_pieces.proofs.Placed.{appends_bits, appends_then}
use Rattle.per_pieces.proofs.Zeros.{with_both}
use Rattle.per_pieces.proofs.Fragments.{appends_short}

-- the bits of octets after their count
both : (k w n v : ℕ) → v ≡ k * 2 ^ w + n % 2 ^ w → to_bits (8 + w) v ≡ to_bits 8 k ++ to_bits w n
both k w n v e =
    to_bits-split 8 w v
    ∙ ap₂ (λ (bs cs : Bits). bs ++ cs)
    (ap (λ (m : ℕ). to_bits 8 m) (ap (λ (m : ℕ). m / 2 ^ w) e ∙ shr_high k w (n % 2 ^ w) (mod-lt n (pow_pos w))))
    (to_bits-same w v n (ap (λ (m : ℕ). m % 2 ^ w) e ∙ mod_low k w (n % 2 ^ w) (mod-lt n (pow_pos w))))

-- octets after their count
pub appends_octets : (a : Variant) (x y u z : Pieces) (k n : ℕ) → k < 128 → Appends x (padding a) y → u ≡ with_bits y (to_bits 8 k) → z ≡ with_bits u (to_bits (8 * k) n) →
    Appends x ((padding a ▹ just (determinant k)) ▹ just (to_bits (8 * k) n)) z
appends_octets a x y u z k n l p c o =
    appends_then x u z (padding a ▹ just (determinant k)) (just (to_bits (8 * k) n))
    (appends_then x y u (padding a) (just (determinant k)) p (appends_short y u k l c)) (appends_bits u z (to_bits (8 * k) n) o)

-- the same in one field
pub appends_field : (a : Variant) (x y z : Pieces) (k n v : ℕ) → k < 128 → Appends x (padding a) y → v ≡ k * 2 ^ (8 * k) + n % 2 ^ (8 * k) → z ≡ with_bits y (to_bits (8 + 8 * k) v) →
    Appends x ((padding a ▹ just (determinant k)) ▹ just (to_bits (8 * k) n)) z
appends_field a x y z k n v l p e o =
    let u : Pieces = with_bits y (to_bits 8 k) in
    appends_octets a x y u z k n l p refl
    (o ∙ ap (λ (bs : Bits). with_bits y bs) (both k (8 * k) n v e) ∙ sym (with_both y (to_bits 8 k) (to_bits (8 * k) n)))

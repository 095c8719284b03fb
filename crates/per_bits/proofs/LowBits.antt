-- The low bits of each of some octets.
use Rattle.std.proofs.Common.{◌≡◌, refl, sym, ap, ap₂, ◌∙◌, subst, ℕ, ◌+◌, ◌-◌, ◌*◌, ◌%◌, ◌^◌, ◌<◌, ◌≤◌, List, [], ◌∷◌, ◌++◌, length, take, drop, get_or, slice_range, arith, pow_pos, mod-eq_of_lt, mod-lt, append_assoc, append-nil, length-append, length-take, bit_or}
use Rattle.std.proofs.lemmas.List.{drop-drop, length-drop, take_at, take_more, take-append-drop}
use Rattle.std.proofs.lemmas.Nat.{mul-le}
use Rattle.std.proofs.Math.Nat.{mul-add, mul-suc}
use Rattle.rasn_types.specs.Bits.{to_bits, unpack}
use Rattle.rasn_types.proofs.Bits.{length-to_bits, to_bits-same}
use Rattle.per_bits.specs.Octets.{low_bits_of}
use Rattle.per_bits.proofs.Joins.{behind, put_after}
use Rattle.per_bits.proofs.Words.{to_bits-join}

pub low-append : (w : ℕ) (os qs : List ℕ) → low_bits_of w (os ++ qs) ≡ low_bits_of w os ++ low_bits_of w qs
low-append w [] qs = refl
low-append w (o ∷ os) qs = ap (λ bs. to_bits w o ++ bs) (low-append w os qs) ∙ sym (append_assoc (to_bits w o) (low_bits_of w os) (low_bits_of w qs))

pub length-low : (w : ℕ) (os : List ℕ) → length (low_bits_of w os) ≡ w * length os
length-low w [] = omega arith
length-low w (o ∷ os) = length-append (to_bits w o) (low_bits_of w os) ∙ ap₂ (λ (m n : ℕ). m + n) (length-to_bits w o) (length-low w os) ∙ omega (arith, mul-suc w (length os))

-- all bits of octets
pub low-eight : (os : List ℕ) → low_bits_of 8 os ≡ unpack os
low-eight [] = refl
low-eight (o ∷ os) = ap (λ bs. to_bits 8 o ++ bs) (low-eight os)

pub low-split : (w k : ℕ) (os : List ℕ) → low_bits_of w os ≡ low_bits_of w (take k os) ++ low_bits_of w (drop k os)
low-split w k os = ap (low_bits_of w) (sym (take-append-drop k os)) ∙ low-append w (take k os) (drop k os)

-- the low bits of the first octets
pub low-take : (w k : ℕ) (os : List ℕ) → k ≤ length os → low_bits_of w (take k os) ≡ take (w * k) (low_bits_of w os)
low-take w k os h = sym (ap (take (w * k)) (low-split w k os) ∙ take_at (low_bits_of w (take k os)) (low_bits_of w (drop k os)) (w * k) (length-low w (take k os) ∙ ap (λ (n : ℕ). w * n) (length-take k os ∙ omega arith)))

-- one octet more
pub record OfOctets (w i field : ℕ) (os : List ℕ) : Type 0 where
  pub bits : to_bits (w * i) field ≡ low_bits_of w (take i os)
  pub below : field < 2 ^ (w * i)

pub of_more : (w i field o n new : ℕ) (os : List ℕ) → OfOctets w i field os → i < length os → w * length os ≤ 56 → o ≡ get_or os i 0 → n ≡ o % 2 ^ w → new ≡ bit_or (field * 2 ^ w % 2 ^ 64) n → OfOctets w (i + 1) new os
of_more w i field o n new os h l few e f d = record {
  bits = ap₂ to_bits further is ∙ to_bits-join (w * i) w field n small ∙ ap₂ (λ bs cs. bs ++ cs) h.bits low ∙ sym (low-append w (take i os) (get_or os i 0 ∷ [])) ∙ ap (low_bits_of w) (sym (take_more os i 0 l));
  below = subst (λ (m : ℕ). new < 2 ^ m) (sym further) (subst (λ (m : ℕ). m < 2 ^ (w * i + w)) (sym is) (behind field n (w * i) w h.below small));
}
  where
    further : w * (i + 1) ≡ w * i + w
    further = mul-add w i 1 ∙ omega arith

    within : w * i + w ≤ 56
    within = let m : w * (i + 1) ≤ w * length os = mul-le w (i + 1) w (length os) (omega arith) (omega arith) in omega (arith, m, sym further)

    small : n < 2 ^ w
    small = let m = mod-lt o (pow_pos w) in omega arith

    is : new ≡ field * 2 ^ w + n
    is = d ∙ put_after 64 field n (w * i) w h.below small (omega (arith, within))

    low : to_bits w n ≡ low_bits_of w (get_or os i 0 ∷ [])
    low = to_bits-same w n o (ap (λ (m : ℕ). m % 2 ^ w) f ∙ mod-eq_of_lt (mod-lt o (pow_pos w))) ∙ ap (to_bits w) e ∙ sym (append-nil (to_bits w (get_or os i 0)))

-- the octets of one field, and those after it
pub record FieldOf (w at k n field : ℕ) (os : List ℕ) : Type 0 where
  pub within : at + k ≤ length os
  pub few : n ≤ 8 * k
  pub bits : to_bits n field ++ low_bits_of w (drop (at + k) os) ≡ low_bits_of w (drop at os)

pub field_there : (w at k n field : ℕ) (os : List ℕ) → at + k ≤ length os → w ≤ 8 → n ≡ w * (at + k - at) →
    to_bits (w * length (slice_range os at (at + k))) field ≡ low_bits_of w (slice_range os at (at + k)) → FieldOf w at k n field os
field_there w at k n field os h few e b = record {
  within = h;
  few = let m : w * k ≤ 8 * k = mul-le w k 8 k few (omega arith) in omega (arith, m, wide);
  bits = ap (λ (m : ℕ). to_bits m field ++ low_bits_of w (drop (at + k) os)) (wide ∙ ap (λ (m : ℕ). w * m) (sym many))
      ∙ ap₂ (λ bs qs. bs ++ low_bits_of w qs) (b ∙ ap (λ (m : ℕ). low_bits_of w (take m (drop at os))) less) (sym (drop-drop k at os))
      ∙ sym (low-split w k (drop at os));
}
  where
    less : at + k - at ≡ k
    less = omega arith

    wide : n ≡ w * k
    wide = e ∙ ap (λ (m : ℕ). w * m) less

    many : length (slice_range os at (at + k)) ≡ k
    many = length-take (at + k - at) (drop at os) ∙ omega (arith, length-drop at os)

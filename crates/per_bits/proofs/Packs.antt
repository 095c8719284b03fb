-- Octets that bits fill up to the spare ones are these bits, packed.
use Rattle.std.proofs.Common.{Fits, w8, get_or, length-append, subst, ◌≡◌, refl, sym, ap, ap₂, ◌∙◌, ℕ, zero, suc, ◌+◌, ◌-◌, ◌*◌, ◌/◌, ◌%◌, ◌<◌, ◌≤◌, false, inl, inr, List, ◌∷◌, ◌++◌, length, take, drop, replicate, arith, length-drop, append_assoc}
use Rattle.std.proofs.lemmas.Bool.{cases_lt}
use Rattle.std.proofs.lemmas.List.{get_or_past, take-append-le, drop-append-le, take-replicate, take_at, replicate-append-replicate}
use Rattle.std.proofs.Math.Seq.{take-append-add}
use Rattle.rasn_types.specs.Bits.{Bits, number_of, pack, unpack, AreOctets}
use Rattle.rasn_types.specs.Packed.{packed}
use Rattle.rasn_types.proofs.Bits.{length-unpack}
use Rattle.rasn_types.proofs.Fewest.{pack-unpack}
use Rattle.rasn_types.proofs.Reading.{are_octets}
use Rattle.rasn_types.proofs.Packing.{pack-append}
use Rattle.per_bits.specs.Octets.{filled, AreFilledBy, AreKept, ArePadded}
use Rattle.per_bits.proofs.Readers.{filled_by, filled_length, padded_by, spare_there}
use Rattle.per_bits.proofs.Room.{cut}

front_same : (s : ℕ) (bs : Bits) → take 8 ((bs ++ replicate s false) ++ replicate 8 false) ≡ take 8 (bs ++ replicate 8 false)
front_same s bs = ap (λ cs. take 8 cs) (append_assoc bs (replicate s false) (replicate 8 false) ∙ ap (λ cs. bs ++ cs) (replicate-append-replicate s 8 false)) ∙ elim (cases_lt (length bs) 8) [
  | inl l ↦ same l (s + 8) (omega arith) ∙ sym (same l 8 (omega arith))
  | inr l ↦ take-append-le 8 bs (replicate (s + 8) false) l ∙ sym (take-append-le 8 bs (replicate 8 false) l)
]
  where
    same : length bs < 8 → (n : ℕ) → 8 ≤ n → take 8 (bs ++ replicate n false) ≡ bs ++ replicate (8 - length bs) false
    same l n h = ap (λ (m : ℕ). take m (bs ++ replicate n false)) (let e : 8 ≡ length bs + (8 - length bs) = omega arith in e) ∙ take-append-add bs (replicate n false) (8 - length bs)
        ∙ ap (λ cs. bs ++ cs) (take-replicate (8 - length bs) n false (omega arith))

pack-zeros : (n s : ℕ) (bs : Bits) → s < 8 → length bs + s ≡ 8 * n → pack n (bs ++ replicate s false) ≡ pack n bs
pack-zeros zero s bs h e = refl
pack-zeros (suc n) s bs h e = ap₂ (λ (m : ℕ) ms. m ∷ ms) (ap number_of (front_same s bs)) (elim (cases_lt (length bs) 8) [
  | inl l ↦ none (let z : n ≡ 0 = omega arith in z)
  | inr l ↦ ap (λ cs. pack n cs) (drop-append-le 8 bs (replicate s false) l) ∙ pack-zeros n s (drop 8 bs) h (omega (arith, length-drop 8 bs))
])
  where
    none : n ≡ 0 → pack n (drop 8 (bs ++ replicate s false)) ≡ pack n (drop 8 bs)
    none z = ap (λ (m : ℕ). pack m (drop 8 (bs ++ replicate s false))) z ∙ sym (ap (λ (m : ℕ). pack m (drop 8 bs)) z)

pub packed_by : (spare : ℕ) (os : List ℕ) → ArePadded spare os → AreOctets os → os ≡ packed (filled spare os)
packed_by spare os h a = sym (ap (λ (n : ℕ). pack n bs) fewest ∙ sym (pack-zeros (length os) spare bs h.few (omega (arith, filled_length spare os, spare_there spare os h))) ∙ ap (λ cs. pack (length os) cs) (sym h.zeros) ∙ pack-unpack os a)
  where
    bs : Bits
    bs = filled spare os

    fewest : (length bs + 7) / 8 ≡ length os
    fewest = omega (arith, filled_length spare os, spare_there spare os h, h.few)

-- octets with room, of which those that are in use are taken
pub packed_front : (spare n : ℕ) (os qs : List ℕ) → AreKept spare os → n ≡ length os - spare / 8 → qs ≡ take n os → AreOctets qs → qs ≡ packed (filled spare os)
packed_front spare n os qs h e q a = let c = cut spare n os qs h e q in packed_by (spare % 8) qs (padded_by c) a ∙ ap packed (filled_by c)

pub front_bits : (spare n : ℕ) (os qs : List ℕ) (bs : Bits) → AreKept spare os → n ≡ length os - spare / 8 → qs ≡ take n os → filled spare os ≡ bs → take (length bs) (unpack qs) ≡ bs
front_bits spare n os qs bs h e q i = ap (λ cs. take (length bs) cs) ((cut spare n os qs h e q).zeros ∙ ap (λ cs. cs ++ replicate (spare % 8) false) i) ∙ take_at bs (replicate (spare % 8) false) (length bs) refl

-- octets after which bits were put, and zeros up to the end of an octet
pub octets_grown : (spare : ℕ) (os qs : List ℕ) (bs : Bits) → AreOctets os → AreOctets qs → AreFilledBy (unpack os ++ bs) spare qs → qs ≡ os ++ packed bs
octets_grown spare os qs bs a b h = packed_by spare qs (padded_by h) b ∙ ap packed (filled_by h)
    ∙ ap (λ (n : ℕ). pack n (unpack os ++ bs)) (let l : (length (unpack os ++ bs) + 7) / 8 ≡ length os + (length bs + 7) / 8 = omega (arith, length-append (unpack os) bs, length-unpack os) in l)
    ∙ pack-append (length os) ((length bs + 7) / 8) (unpack os) bs (length-unpack os) ∙ ap (λ ps. ps ++ packed bs) (pack-unpack os a)

pub octets_below : (os : List ℕ) → ((i d : ℕ) → i < length os → get_or os i d < 256) → AreOctets os
octets_below os h = are_octets os (λ i. elim (cases_lt i (length os)) [
  | inl l ↦ (let b = h i 0 l in omega arith)
  | inr l ↦ subst (λ (n : ℕ). Fits w8 n) (sym (get_or_past os i 0 l)) (omega arith)
])

-- Open types of few octets, in the memory of their contents.
use Rattle.std.proofs.Common.{◌≡◌, refl, sym, ap, ◌∙◌, ℕ, zero, suc, ◌+◌, ◌/◌, ◌<◌, ◌≤◌, max, Bool, cond, ltb, lt-ltb, List, [], ◌∷◌, true, false, length, Some, arith, get_or}
use Rattle.rasn_types.specs.Bits.{Bits, AreOctets, to_bits, unpack}
use Rattle.rasn_types.specs.Variants.{Variant, aligned, unaligned}
use Rattle.rasn_types.proofs.Octets.{length-pack, octets-pack}
use Rattle.per_core.specs.Counts.{determinant, octet_items, octet_writers, open_bits}
use Rattle.per_core.specs.Writers.{Writer, after, complete, join, just, one_by_one, ◌▹◌}
use Rattle.per_pieces.specs.Fragments.{one_fragment}
use Rattle.per_pieces.proofs.Fragments.{fragments_of_few, in_their_fragments, length-octet_writers, octets_one_by_one}

are_octets : (os : List ℕ) → AreOctets os → (k : ℕ) → get_or os k 0 < 256
are_octets [] h k = omega arith
are_octets (o ∷ os) h zero = h.0
are_octets (o ∷ os) h (suc k) = are_octets os h.1 k

-- X.691 11.9.3.6: a count below 128 takes one octet
short_count : (n : ℕ) → n < 128 → determinant n ≡ to_bits 8 n
unfolding determinant
short_count n h = ap (λ (b : Bool). cond b (to_bits 8 n) (cond (ltb n 16384) (true ∷ false ∷ to_bits 14 n) (to_bits 8 (192 + n / 16384)))) (lt-ltb n 128 h)

-- at position 0 there is no padding in front of it
begins_short : (a : Variant) (ws : List Writer) → one_fragment a ws 0 ≡ (just (determinant (length ws)) ▹ one_by_one ws) 0
begins_short aligned ws = refl
begins_short unaligned ws = refl

one_short : (a : Variant) (os : List ℕ) → AreOctets os → length os < 128 → one_fragment a (octet_writers os) 0 ≡ Some (unpack (length os ∷ os))
one_short a os h l = begins_short a (octet_writers os)
    ∙ ap (λ (n : ℕ). (just (determinant n) ▹ one_by_one (octet_writers os)) 0) (length-octet_writers os)
    ∙ ap (λ (bs : Bits). (just bs ▹ one_by_one (octet_writers os)) 0) (short_count (length os) l)
    ∙ ap (join (to_bits 8 (length os))) (octets_one_by_one os (are_octets os h) (after 0 (to_bits 8 (length os))))

-- so many bits fill at most 127 octets
pub few_octets : (contents : Bits) (os : List ℕ) → length contents ≤ 1016 → os ≡ complete contents → length os < 128
few_octets contents os l e = omega (arith, ap (λ (qs : List ℕ). length qs) e ∙ length-pack (max 1 ((length contents + 7) / 8)) contents)

-- X.691 11.2: they are after their count, at position 0
pub short_open : (a : Variant) (contents opened : Bits) (os : List ℕ) (n : ℕ) → length contents ≤ 1016 → os ≡ complete contents → n ≡ length os → opened ≡ unpack (n ∷ os) → Some opened ≡ open_bits a (Some contents) 0
unfolding open_bits
short_open a contents opened os n l e c o =
    let all = complete contents in
    let few : length all < 128 = few_octets contents all l refl in
    let written : length (octet_writers all) ≡ length all = length-octet_writers all in
    ap Some (o ∙ ap (λ (m : ℕ). unpack (m ∷ os)) c ∙ ap (λ (qs : List ℕ). unpack (length qs ∷ qs)) e)
    ∙ sym (one_short a all (octets-pack (max 1 ((length contents + 7) / 8)) contents) few)
    ∙ sym (fragments_of_few a (octet_writers all) (omega (arith, written, few)) 0)
    ∙ in_their_fragments a octet_items (octet_writers all) (omega (arith, written, few)) 0

-- Numbers that are put into the low bits of octets.
use Rattle.std.proofs.Common.{◌≡◌, sym, ap, ap₂, ◌∙◌, ℕ, ◌+◌, ◌-◌, ◌*◌, ◌/◌, ◌%◌, ◌^◌, ◌<◌, ◌≤◌, false, List, ◌++◌, length, take, drop, replicate, arith, pow_pos, mod-eq_of_lt, mod-lt, length-take}
use borrow.Rule.Slice.PartMut.{put_mid}
use Rattle.std.proofs.lemmas.List.{drop-append-le, drop-drop, take_at, take-take}
use Rattle.std.proofs.lemmas.Nat.{field_of, mul-le, shl-shr, shr-shr}
use Rattle.std.proofs.Math.Nat.{mul-add}
use Rattle.std.proofs.Math.Seq.{take-append-add}
use Rattle.std.specs.Int.{w64, to_be_bytes}
use Rattle.rasn_types.specs.Bits.{to_bits, unpack}
use Rattle.rasn_types.proofs.Bits.{length-unpack, to_bits-same}
use Rattle.per_bits.specs.Lanes.{low_of_each}
use Rattle.per_bits.specs.Octets.{word_size, first_word, low_bits_of}
use Rattle.per_bits.proofs.Eights.{bytes_bits, bytes_eight, middle, octets_low}
use Rattle.per_bits.proofs.LowBits.{low-append, low-take}
use Rattle.per_bits.proofs.Readers.{split_at}
use Rattle.per_bits.proofs.Words.{inner-append, inner-front, to_bits-inner, unpack-drop, word_size-is}

-- ---- eight numbers in a word

-- the numbers after the first bits of a word
pub record AreNumbers (w skip loaded word : ℕ) : Type 0 where
  pub bits : to_bits (8 * w) word ≡ take (8 * w) (drop skip (to_bits word_size loaded))
  pub below : word < 2 ^ (8 * w)

pub numbers_of : (w skip loaded word : ℕ) → w < 8 → skip < 8 → word ≡ loaded * 2 ^ skip % 2 ^ 64 / 2 / 2 ^ (63 - 8 * w) → AreNumbers w skip loaded word
numbers_of w skip loaded word h l e = record {
  bits = to_bits-same size word (loaded / 2 ^ behind) (ap (λ (m : ℕ). m % 2 ^ size) is ∙ mod-eq_of_lt (mod-lt (loaded / 2 ^ behind) (pow_pos size))) ∙ sym (to_bits-inner skip size behind loaded)
      ∙ ap (λ (m : ℕ). take size (drop skip (to_bits m loaded))) (let i : skip + (size + behind) ≡ word_size = omega (arith, word_size-is) in i);
  below = let m = mod-lt (loaded / 2 ^ behind) (pow_pos size) in omega (arith, is, m);
}
  where
    size : ℕ
    size = 8 * w

    behind : ℕ
    behind = 64 - skip - size

    is : word ≡ loaded / 2 ^ behind % 2 ^ size
    is = e ∙ shr-shr (loaded * 2 ^ skip % 2 ^ 64) 1 (63 - size) ∙ ap₂ (λ (m n : ℕ). loaded * 2 ^ skip % 2 ^ m / 2 ^ n) (let i : 64 ≡ size + (64 - size) = omega arith in i) (let i : 1 + (63 - size) ≡ 64 - size = omega arith in i)
        ∙ field_of (loaded * 2 ^ skip) size (64 - size) ∙ ap (λ (m : ℕ). loaded * 2 ^ skip / 2 ^ m % 2 ^ size) (let i : 64 - size ≡ skip + behind = omega arith in i)
        ∙ ap (λ (m : ℕ). m % 2 ^ size) (sym (shr-shr (loaded * 2 ^ skip) skip behind) ∙ ap (λ (m : ℕ). m / 2 ^ behind) (shl-shr loaded skip))

-- ---- the loop

-- the octets of eight numbers more
put_more : (w at k value : ℕ) (octets bytes : List ℕ) → w ≤ 8 → k ≡ 8 → at + 8 ≤ length octets → bytes ≡ to_be_bytes w64 value → low_bits_of w (take (at + 8) (put_mid at k octets bytes)) ≡ low_bits_of w (take at octets) ++ low_of_each w 8 8 value
put_more w at k value octets bytes h e l b = ap (λ os. low_bits_of w (take (at + 8) os)) (middle at k octets bytes e l)
    ∙ ap (λ (n : ℕ). low_bits_of w (take (n + 8) (take at octets ++ (bytes ++ drop 8 (drop at octets))))) (let i : at ≡ length (take at octets) = omega (arith, length-take at octets) in i)
    ∙ ap (low_bits_of w) (take-append-add (take at octets) (bytes ++ drop 8 (drop at octets)) 8 ∙ ap (λ os. take at octets ++ os) (take_at bytes (drop 8 (drop at octets)) 8 (bytes_eight value bytes b)))
    ∙ low-append w (take at octets) bytes
    ∙ ap (λ bs. low_bits_of w (take at octets) ++ bs) (sym (octets_low w 8 value bytes h (bytes_eight value bytes b) (ap (λ (m : ℕ). to_bits m value) (sym word_size-is) ∙ sym (bytes_bits value bytes b))))

-- the bits of the word after a place
word_there : (w skip place loaded : ℕ) (from rest : List ℕ) → w < 8 → skip < 8 → place ≤ length from → rest ≡ drop place from → to_bits word_size loaded ≡ first_word rest →
    take (8 * w) (drop skip (to_bits word_size loaded)) ≡ take (8 * w) (drop (8 * place) (drop skip (unpack from ++ replicate word_size false)))
word_there w skip place loaded from rest h l f r e = ap (λ bs. take (8 * w) (drop skip bs)) e
    ∙ inner-front skip (8 * w) word_size (unpack rest ++ replicate word_size false) (omega (arith, word_size-is))
    ∙ ap (λ bs. take (8 * w) (drop skip bs)) (ap (λ os. unpack os ++ replicate word_size false) r ∙ ap (λ bs. bs ++ replicate word_size false) (sym (unpack-drop place from)) ∙ sym (drop-append-le (8 * place) (unpack from) (replicate word_size false) (omega (arith, length-unpack from))))
    ∙ ap (take (8 * w)) (drop-drop skip (8 * place) (unpack from ++ replicate word_size false) ∙ ap (λ (n : ℕ). drop n (unpack from ++ replicate word_size false)) (let i : 8 * place + skip ≡ skip + 8 * place = omega arith in i)
    ∙ sym (drop-drop (8 * place) skip (unpack from ++ replicate word_size false)))

pub spread_more : (w skip at place k loaded word value : ℕ) (octets bytes from rest : List ℕ) → w < 8 → skip < 8 → place ≤ length from → rest ≡ drop place from → k ≡ 8 → at + 8 ≤ length octets → 8 * place ≡ w * at →
    to_bits word_size loaded ≡ first_word rest → AreNumbers w skip loaded word → low_of_each w 8 8 value ≡ to_bits (8 * w) word → bytes ≡ to_be_bytes w64 value →
    low_bits_of w (take at octets) ≡ take (w * at) (drop skip (unpack from ++ replicate word_size false)) →
    low_bits_of w (take (at + 8) (put_mid at k octets bytes)) ≡ take (w * (at + 8)) (drop skip (unpack from ++ replicate word_size false))
spread_more w skip at place k loaded word value octets bytes from rest h l f r e m p load numbers spread b before =
    let all = drop skip (unpack from ++ replicate word_size false) in
    let more : w * (at + 8) ≡ w * at + w * 8 = mul-add w at 8 in
    put_more w at k value octets bytes (omega arith) e m b
    ∙ ap₂ (λ bs cs. bs ++ cs) before (spread ∙ numbers.bits ∙ word_there w skip place loaded from rest h l f r load ∙ ap₂ (λ (i j : ℕ). take i (drop j all)) (let i : 8 * w ≡ w * (at + 8) - w * at = omega (arith, more) in i) p)
    ∙ sym (split_at (w * at) (w * (at + 8)) all (omega (arith, more)))

-- all numbers
pub spread_done : (w skip at count : ℕ) (octets from : List ℕ) → count ≤ at → at ≤ length octets → skip + w * count ≤ 8 * length from →
    low_bits_of w (take at octets) ≡ take (w * at) (drop skip (unpack from ++ replicate word_size false)) → low_bits_of w (take count octets) ≡ take (w * count) (drop skip (unpack from))
spread_done w skip at count octets from h l f before =
    let all = drop skip (unpack from ++ replicate word_size false) in
    let fewer : w * count ≤ w * at = mul-le w count w at (omega arith) h in
    ap (low_bits_of w) (sym (take-take count at octets h)) ∙ low-take w count (take at octets) (omega (arith, length-take at octets)) ∙ ap (take (w * count)) before ∙ take-take (w * count) (w * at) all fewer
    ∙ inner-append skip (w * count) (unpack from) (replicate word_size false) (omega (arith, length-unpack from))

-- the numbers in front of a place are no more than there are
pub place_within : (w skip at place count : ℕ) (from : List ℕ) → at ≤ count → 8 * place ≡ w * at → skip + w * count ≤ 8 * length from → place ≤ length from
place_within w skip at place count from h e l = let m : w * at ≤ w * count = mul-le w at w count (omega arith) h in omega (arith, m, e, l)

pub eight_on : (w at place : ℕ) → 8 * place ≡ w * at → 8 * (place + w) ≡ w * (at + 8)
eight_on w at place e = omega (arith, mul-add w at 8, e)

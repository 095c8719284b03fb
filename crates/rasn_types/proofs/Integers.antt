-- Numbers of an `i128`, as octets.
use Rattle.std.proofs.Common.{◌≡◌, refl, sym, ap, ap₂, ◌∙◌, ℕ, zero, suc, ◌+◌, ◌-◌, ◌*◌, ◌/◌, ◌%◌, ◌^◌, ◌<◌, ◌≤◌, true, false, List, ◌∷◌, take, drop, arith, ℤ, pos, negsuc, FitsSigned, ltb-true, mod-eq_of_lt, div-one, pow-add, pow_pos, suc-mul, le_of_eq}
use Rattle.std.proofs.lemmas.Nat.{leading_length, mod_low}
use Rattle.std.specs.Int.{byte_at, to_be_bytes, w128, cast_unsigned, leading_zeros, leading_ones, bytes_high_first}
use Rattle.std.proofs.lemmas.List.{take_all}
use lib.Count.{count_leading_zeros}
use lib.Signed.{mag, lt_z}
use Rattle.rasn_types.specs.Bits.{to_bits, pack, width, octets_of_whole, twos_complement, whole_bits, signed_octets}
use Rattle.rasn_types.proofs.Bits.{width_is, width_least, to_bits-same, to_bits-split, number-to_bits, octet_power}
use Rattle.rasn_types.proofs.Octets.{mag_fits, length-signed_octets}

-- ---- how many octets

-- 128 bits without those at the front that are all zero
width_from_zeros : (n : ℕ) → n < 2 ^ 127 → 128 - count_leading_zeros 128 n ≡ width (n + 1)
width_from_zeros n h = let d = leading_length 128 n (omega arith) in
    let e : width (n + 1) ≡ d.0 = width_is n d.0 d.2 d.3 in let l : count_leading_zeros 128 n + d.0 ≡ 128 = d.1 in omega arith

count_from_zeros : (n s : ℕ) → n < 2 ^ 127 → s ≡ count_leading_zeros 128 n → (128 - s) / 8 + 1 ≡ width (n + 1) / 8 + 1
count_from_zeros n s h e = ap (λ (k : ℕ). (128 - k) / 8 + 1) e ∙ ap (λ (k : ℕ). k / 8 + 1) (width_from_zeros n h)

pub count_of_natural : (z : ℤ) (s : ℕ) → lt_z z (pos 0) ≡ false → FitsSigned w128 z → s ≡ leading_zeros w128 (cast_unsigned w128 z) → (128 - s) / 8 + 1 ≡ octets_of_whole z
unfolding octets_of_whole
count_of_natural (pos n) s l f e = count_from_zeros n s f.sfits e
count_of_natural (negsuc n) s l f e = absurd (cc)

pub count_of_negative : (z : ℤ) (s : ℕ) → lt_z z (pos 0) ≡ true → FitsSigned w128 z → s ≡ leading_ones w128 (cast_unsigned w128 z) → (128 - s) / 8 + 1 ≡ octets_of_whole z
unfolding octets_of_whole
count_of_negative (pos n) s l f e = absurd (omega (arith, ltb-true n 0 l))
count_of_negative (negsuc n) s l f e = let h : n < 2 ^ 127 = f.sfits in
    let same : 2 ^ 128 - 1 - (2 ^ 128 - suc n) ≡ n = omega arith in
    count_from_zeros n s h (e ∙ ap (λ (k : ℕ). count_leading_zeros 128 k) same)

-- a number of an `i128` takes at most 16 octets
pub octets_of_i128 : (z : ℤ) → FitsSigned w128 z → octets_of_whole z ≤ 16
unfolding octets_of_whole
octets_of_i128 (pos n) f = let h : n < 2 ^ 127 = f.sfits in let l : width (n + 1) ≤ 127 = width_least (n + 1) 127 (omega arith) in omega arith
octets_of_i128 (negsuc n) f = let h : n < 2 ^ 127 = f.sfits in let l : width (n + 1) ≤ 127 = width_least (n + 1) 127 (omega arith) in omega arith

-- ---- which octets

-- octet k of a number, where octet 0 is the lowest
octet_at : (k n : ℕ) → n / 2 ^ (8 * k) % 256 ≡ byte_at k n
octet_at zero n = ap (λ (m : ℕ). m % 256) (div-one n)
octet_at (suc k) n = ap (λ (m : ℕ). n / m % 256) (sym (octet_power (suc k)))

-- the octets of the low 8 k bits of a number are its k low octets
pack-to_bits : (k n : ℕ) → pack k (to_bits (8 * k) n) ≡ bytes_high_first k n
pack-to_bits zero n = refl
pack-to_bits (suc k) n = ap (λ bs. pack (suc k) bs) (ap (λ (w : ℕ). to_bits w n) next ∙ to_bits-split 8 (8 * k) n)
    ∙ ap₂ (λ o os. o ∷ os) (number-to_bits 8 (n / 2 ^ (8 * k)) ∙ octet_at k n) (pack-to_bits k n)
  where
    next : 8 * suc k ≡ 8 + 8 * k
    next = omega arith

drop-high : (j k w n : ℕ) → j + k ≡ w → drop j (bytes_high_first w n) ≡ bytes_high_first k n
drop-high zero k w n e = ap (λ (m : ℕ). bytes_high_first m n) (let i : w ≡ k = omega arith in i)
drop-high (suc j) k zero n e = absurd (omega arith)
drop-high (suc j) k (suc w) n e = drop-high j k w n (omega arith)

one_less : (q p : ℕ) → 0 < q → (q - 1) * p + p ≡ q * p
one_less zero p h = absurd (omega arith)
one_less (suc q) p h = ap (λ (m : ℕ). m * p + p) (let e : suc q - 1 ≡ q = omega arith in e) ∙ sym (suc-mul q p)

-- an `i128` has the low bits of the number's two's complement
low_bits : (k : ℕ) (z : ℤ) → k ≤ 16 → mag z < 2 ^ (8 * k) → to_bits (8 * k) (twos_complement (8 * k) z) ≡ to_bits (8 * k) (cast_unsigned w128 z)
low_bits k (pos n) l h = refl
low_bits k (negsuc n) l h = to_bits-same (8 * k) (p - (n + 1)) (2 ^ 128 - suc n)
    (mod-eq_of_lt low ∙ sym (ap (λ (m : ℕ). m % p) split ∙ mod_low (q - 1) (8 * k) (p - (n + 1)) low))
  where
    p : ℕ
    p = 2 ^ (8 * k)

    q : ℕ
    q = 2 ^ (128 - 8 * k)

    low : p - (n + 1) < p
    low = omega arith

    whole : (q - 1) * p + p ≡ 2 ^ 128
    whole = one_less q p (pow_pos (128 - 8 * k)) ∙ sym (pow-add 2 (128 - 8 * k) (8 * k)) ∙ ap (λ (m : ℕ). 2 ^ m) (let e : 128 - 8 * k + 8 * k ≡ 128 = omega arith in e)

    split : 2 ^ 128 - suc n ≡ (q - 1) * p + (p - (n + 1))
    split = let e = whole in omega arith

low_octets_of : (k : ℕ) (z : ℤ) → k ≤ 16 → mag z < 2 ^ (8 * k) → drop (16 - k) (to_be_bytes w128 (cast_unsigned w128 z)) ≡ pack k (to_bits (8 * k) (twos_complement (8 * k) z))
low_octets_of k z l h = drop-high (16 - k) k 16 (cast_unsigned w128 z) (omega arith) ∙ sym (pack-to_bits k (cast_unsigned w128 z)) ∙ ap (λ bs. pack k bs) (sym (low_bits k z l h))

-- the low octets of an `i128`, as many as the number takes
low_octets : (z : ℤ) → FitsSigned w128 z → drop (16 - octets_of_whole z) (to_be_bytes w128 (cast_unsigned w128 z)) ≡ signed_octets z
unfolding signed_octets whole_bits
low_octets z f = low_octets_of (octets_of_whole z) z (octets_of_i128 z f) (mag_fits z)

-- what is left of an `i128`'s 16 octets where those at the front are skipped
pub kept_octets : (z : ℤ) (k : ℕ) (octets : List ℕ) → FitsSigned w128 z → k ≡ octets_of_whole z → octets ≡ to_be_bytes w128 (cast_unsigned w128 z) →
    take (16 - (16 - k)) (drop (16 - k) octets) ≡ signed_octets z
kept_octets z k octets f e i = ap₂ (λ (n : ℕ) os. take n os) all rest ∙ take_all (octets_of_whole z) (signed_octets z) (le_of_eq (length-signed_octets z))
  where
    all : 16 - (16 - k) ≡ octets_of_whole z
    all = let l = octets_of_i128 z f in omega arith

    rest : drop (16 - k) octets ≡ signed_octets z
    rest = ap₂ (λ (n : ℕ) os. drop (16 - n) os) e i ∙ low_octets z f

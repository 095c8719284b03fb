-- Bits in octets, and whole numbers as octets.
use Rattle.std.proofs.Common.{◌≡◌, refl, sym, ap, ap₂, ◌∙◌, subst, ℕ, zero, suc, ◌+◌, ◌-◌, ◌*◌, ◌/◌, ◌%◌, ◌^◌, ◌<◌, ◌≤◌, Bool, true, false, leb, List, [], ◌∷◌, ◌++◌, length, take, drop, replicate, arith, ℤ, pos, negsuc, pow-suc, pow_mono, pow_pos, le_of_eq, length-append, mod-eq_of_lt, le-leb, length-take, length-drop, take-append-drop}
use Rattle.std.proofs.lemmas.Bool.{lt-leb}
use Rattle.std.proofs.lemmas.List.{take-append-le}
use Rattle.std.proofs.Math.Nat.{add-mod_right}
use lib.Signed.{mag}
use Rattle.rasn_types.specs.Bits.{Bits, to_bits, number_of, pack, unpack, width, AreOctets, octets_of_whole}
use Rattle.rasn_types.specs.Bits.{twos_complement, whole_bits, signed, signed_bits, signed_octets}
use Rattle.rasn_types.specs.Integers.{AreFewest}
use Rattle.rasn_types.proofs.Bits.{length-to_bits, length-unpack, number-to_bits, to_bits-number, number_below, width_holds, width_least}

-- ---- bits in octets

pub length-pack : (n : ℕ) (bs : Bits) → length (pack n bs) ≡ n
length-pack zero bs = refl
length-pack (suc n) bs = ap suc (length-pack n _)

pub octet_again : (bs : Bits) → length bs ≡ 8 → to_bits 8 (number_of bs) ≡ bs
octet_again bs l = ap (λ (k : ℕ). to_bits k (number_of bs)) (sym l) ∙ to_bits-number bs

-- bits that fill n octets are the bits of those octets
pub unpack-pack : (n : ℕ) (bs : Bits) → length bs ≡ 8 * n → unpack (pack n bs) ≡ bs
unpack-pack zero [] e = refl
unpack-pack zero (b ∷ bs) e = absurd (omega arith)
unpack-pack (suc n) bs e =
    let l : 8 ≤ length bs = omega arith in
    let t : take 8 (bs ++ replicate 8 false) ≡ take 8 bs = take-append-le 8 bs (replicate 8 false) l in
    let u : to_bits 8 (number_of (take 8 (bs ++ replicate 8 false))) ≡ take 8 bs = ap (λ z. to_bits 8 (number_of z)) t ∙ octet_again (take 8 bs) (length-take 8 bs ∙ omega arith) in
    let r : unpack (pack n (drop 8 bs)) ≡ drop 8 bs = unpack-pack n (drop 8 bs) (omega (arith, length-drop 8 bs)) in
    ap₂ (λ x y. x ++ y) u r ∙ take-append-drop 8 bs

-- ---- what the bits of a whole number mean

signed_pos : (w n : ℕ) → n < 2 ^ w → signed_bits (to_bits (suc w) n) ≡ pos n
signed_pos w n h = ap (λ b. signed_bits (b ∷ to_bits w n)) top ∙ ap pos (number-to_bits w n ∙ mod-eq_of_lt h)
  where
    top : leb (2 ^ w) (n % 2 ^ suc w) ≡ false
    top = ap (λ (k : ℕ). leb (2 ^ w) k) (mod-eq_of_lt (omega (arith, pow-suc 2 w))) ∙ lt-leb (2 ^ w) n h

signed_neg : (w n : ℕ) → n < 2 ^ w → signed_bits (to_bits (suc w) (2 ^ suc w - (n + 1))) ≡ negsuc n
signed_neg w n h = ap (λ b. signed_bits (b ∷ to_bits w (2 ^ suc w - (n + 1)))) top ∙ ap negsuc value
  where
    twice : 2 ^ suc w ≡ 2 ^ w + 2 ^ w
    twice = pow-suc 2 w ∙ omega arith

    m : ℕ
    m = 2 ^ suc w - (n + 1)

    is : m ≡ (2 ^ w - (n + 1)) + 2 ^ w
    is = let t = twice in omega arith

    top : leb (2 ^ w) (m % 2 ^ suc w) ≡ true
    top = ap (λ (k : ℕ). leb (2 ^ w) k) (mod-eq_of_lt (let t = twice in let i = is in omega arith)) ∙ le-leb (2 ^ w) m (let i = is in omega arith)

    rest : number_of (to_bits w m) ≡ 2 ^ w - (n + 1)
    rest = number-to_bits w m ∙ ap (λ (k : ℕ). k % 2 ^ w) is ∙ add-mod_right (2 ^ w - (n + 1)) (2 ^ w) ∙ mod-eq_of_lt (omega arith)

    value : 2 ^ length (to_bits w m) - 1 - number_of (to_bits w m) ≡ n
    value = ap (λ (k : ℕ). 2 ^ k - 1 - number_of (to_bits w m)) (length-to_bits w m) ∙ ap (λ (k : ℕ). 2 ^ w - 1 - k) rest ∙ omega arith

octet_bits : (n : ℕ) → 8 * (width (n + 1) / 8 + 1) ≡ suc (8 * (width (n + 1) / 8) + 7)
octet_bits n = omega arith

-- the octets of n leave a bit for the sign
below_sign : (n : ℕ) → n < 2 ^ (8 * (width (n + 1) / 8) + 7)
below_sign n = let h = width_holds (n + 1) in let k : width (n + 1) ≤ 8 * (width (n + 1) / 8) + 7 = omega arith in
    let l = pow_mono {i = width (n + 1)} {j = 8 * (width (n + 1) / 8) + 7} k in omega arith

more : (n : ℕ) → n < 2 ^ suc (8 * (width (n + 1) / 8) + 7)
more n = omega (arith, below_sign n, pow-suc 2 (8 * (width (n + 1) / 8) + 7))

pub mag_fits : (z : ℤ) → mag z < 2 ^ (8 * octets_of_whole z)
unfolding octets_of_whole
mag_fits (pos n) = subst (λ (k : ℕ). n < 2 ^ k) (sym (octet_bits n)) (more n)
mag_fits (negsuc n) = subst (λ (k : ℕ). n < 2 ^ k) (sym (octet_bits n)) (more n)

pub signed_bits-whole_bits : (z : ℤ) → signed_bits (whole_bits z) ≡ z
unfolding whole_bits octets_of_whole
signed_bits-whole_bits (pos n) = ap (λ (k : ℕ). signed_bits (to_bits k n)) (octet_bits n) ∙ signed_pos (8 * (width (n + 1) / 8) + 7) n (below_sign n)
signed_bits-whole_bits (negsuc n) = ap (λ (k : ℕ). signed_bits (to_bits k (2 ^ k - (n + 1)))) (octet_bits n) ∙ signed_neg (8 * (width (n + 1) / 8) + 7) n (below_sign n)

-- ---- the fewest octets of a whole number

pub length-whole_bits : (z : ℤ) → length (whole_bits z) ≡ 8 * octets_of_whole z
unfolding whole_bits
length-whole_bits z = length-to_bits (8 * octets_of_whole z) (twos_complement (8 * octets_of_whole z) z)

pub octets_of_whole_some : (z : ℤ) → 0 < octets_of_whole z
unfolding octets_of_whole
octets_of_whole_some (pos n) = omega arith
octets_of_whole_some (negsuc n) = omega arith

pub length-signed_octets : (z : ℤ) → length (signed_octets z) ≡ octets_of_whole z
unfolding signed_octets
length-signed_octets z = length-pack (octets_of_whole z) (whole_bits z)

pub signed_octets_some : (z : ℤ) → 0 < length (signed_octets z)
signed_octets_some z = subst (λ (k : ℕ). 0 < k) (sym (length-signed_octets z)) (octets_of_whole_some z)

pub unpack-signed_octets : (z : ℤ) → unpack (signed_octets z) ≡ whole_bits z
unfolding signed_octets
unpack-signed_octets z = unpack-pack (octets_of_whole z) (whole_bits z) (length-whole_bits z)

-- a number's fewest octets mean the number
pub signed-signed_octets : (z : ℤ) → signed (signed_octets z) ≡ z
signed-signed_octets z = ap signed_bits (unpack-signed_octets z) ∙ signed_bits-whole_bits z

-- ---- no fewer octets mean a number

mag_below : (b : Bool) (bs : Bits) → mag (signed_bits (b ∷ bs)) < 2 ^ length bs
mag_below true bs = omega (arith, pow_pos (length bs))
mag_below false bs = number_below bs

octets_enough : (z : ℤ) (v n : ℕ) → mag z < 2 ^ v → suc v ≤ 8 * n → octets_of_whole z ≤ n
unfolding octets_of_whole
octets_enough (pos m) v n h l = let w = width_least (m + 1) v (omega arith) in omega arith
octets_enough (negsuc m) v n h l = let w = width_least (m + 1) v (omega arith) in omega arith

pub octets_of_signed : (os : List ℕ) → 0 < length os → octets_of_whole (signed os) ≤ length os
octets_of_signed [] h = absurd (omega arith)
octets_of_signed (o ∷ os) h = octets_enough (signed (o ∷ os)) (length rest) (suc (length os)) (mag_below (leb 128 (o % 256)) rest) (le_of_eq (length-unpack (o ∷ os)))
  where
    rest : Bits
    rest = to_bits 7 o ++ unpack os

pub fewest-signed_octets : (z : ℤ) → AreFewest z (signed_octets z)
fewest-signed_octets z = record {
  some = signed_octets_some z;
  mean = signed-signed_octets z;
  fewest = λ others h e. subst (λ (n : ℕ). n ≤ length others) (sym (length-signed_octets z)) (subst (λ y. octets_of_whole y ≤ length others) e (octets_of_signed others h));
}

-- ---- packed bits are octets

octet_below : (bs : Bits) → number_of (take 8 (bs ++ replicate 8 false)) < 256
octet_below bs = subst (λ (n : ℕ). number_of (take 8 (bs ++ replicate 8 false)) < 2 ^ n) eight (number_below (take 8 (bs ++ replicate 8 false)))
  where
    eight : length (take 8 (bs ++ replicate 8 false)) ≡ 8
    eight = length-take 8 (bs ++ replicate 8 false) ∙ omega (arith, length-append bs (replicate 8 false))

pub octets-pack : (n : ℕ) (bs : Bits) → AreOctets (pack n bs)
octets-pack zero bs = tt
octets-pack (suc n) bs = (octet_below bs, octets-pack n (drop 8 bs))

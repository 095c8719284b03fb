-- Numbers and their bits.
use Rattle.std.proofs.Common.{◌≡◌, refl, sym, ap, ◌∙◌, subst, ℕ, zero, suc, ◌+◌, ◌-◌, ◌*◌, ◌/◌, ◌%◌, ◌^◌, ◌<◌, ◌≤◌, Bool, true, false, cond, leb, List, [], ◌∷◌, ◌++◌, length, length-append, append_assoc, arith, inl, inr, leb-true, pow-suc, mod-lt, mod-eq_of_lt, pow_pos, leb-false, one-add, mul_comm, pow_mono, le_of_lt, le_trans, le_antisymm, le-leb, add_comm, pow-add}
use Rattle.std.proofs.lemmas.Bool.{cases_lt, lt-leb}
use Rattle.std.proofs.lemmas.Nat.{le-div, div_below, field_of}
use Rattle.std.proofs.Math.Pow.{mod-mod-pow}
use Rattle.std.proofs.Math.Nat.{mod-one, add-mod_right}
use Rattle.rasn_types.specs.Alphabets.{char_width}
use Rattle.rasn_types.specs.Bits.{Bits, to_bits, number_of, unpack, width, width_from}
use Rattle.rasn_types.specs.Variants.{Variant, aligned, unaligned}

-- ---- the bits of a number

pub length-to_bits : (w n : ℕ) → length (to_bits w n) ≡ w
length-to_bits zero n = refl
length-to_bits (suc w) n = ap suc (length-to_bits w n)

-- octets have eight bits each
pub length-unpack : (os : List ℕ) → length (unpack os) ≡ 8 * length os
length-unpack [] = refl
length-unpack (o ∷ os) = length-append (to_bits 8 o) (unpack os) ∙ omega (arith, length-unpack os)

pub unpack-append : (os qs : List ℕ) → unpack (os ++ qs) ≡ unpack os ++ unpack qs
unpack-append [] qs = refl
unpack-append (o ∷ os) qs = ap (λ bs. to_bits 8 o ++ bs) (unpack-append os qs) ∙ sym (append_assoc (to_bits 8 o) (unpack os) (unpack qs))

-- what n bits mean is below 2 ^ n
pub number_below : (bs : Bits) → number_of bs < 2 ^ length bs
number_below [] = omega arith
number_below (true ∷ bs) = omega (arith, number_below bs, pow-suc 2 (length bs))
number_below (false ∷ bs) = omega (arith, number_below bs, pow-suc 2 (length bs))

halved : (m x : ℕ) → x < 2 * m → x ≡ cond (leb m x) m 0 + x % m
halved m x h = go (leb m x) refl
  where
    go : (b : Bool) → leb m x ≡ b → x ≡ cond b m 0 + x % m
    go true e = let l : m ≤ x = leb-true m x e in
        let q : x ≡ (x - m) + m = omega arith in
        let u : x % m ≡ x - m = ap (λ (k : ℕ). k % m) q ∙ add-mod_right (x - m) m ∙ mod-eq_of_lt (omega arith) in omega arith
    go false e = let l : x < m = leb-false m x e in let u : x % m ≡ x = mod-eq_of_lt l in omega arith

shorter : (w n : ℕ) → n % 2 ^ suc w % 2 ^ w ≡ n % 2 ^ w
shorter w n = ap (λ (z : ℕ). n % 2 ^ z % 2 ^ w) (sym (one-add w)) ∙ mod-mod-pow n 1 w

first_bit : (w n : ℕ) → n % 2 ^ suc w ≡ cond (leb (2 ^ w) (n % 2 ^ suc w)) (2 ^ w) 0 + n % 2 ^ w
first_bit w n =
    let h : n % 2 ^ suc w < 2 ^ suc w = mod-lt n (pow_pos (suc w)) in
    let k : 2 ^ suc w ≡ 2 * 2 ^ w = pow-suc 2 w ∙ mul_comm (2 ^ w) 2 in
    halved (2 ^ w) (n % 2 ^ suc w) (omega arith) ∙ ap (λ (z : ℕ). cond (leb (2 ^ w) (n % 2 ^ suc w)) (2 ^ w) 0 + z) (shorter w n)

-- the low w bits of n mean the rest of n by 2 ^ w
pub number-to_bits : (w n : ℕ) → number_of (to_bits w n) ≡ n % 2 ^ w
number-to_bits zero n = sym (mod-one n)
number-to_bits (suc w) n = ap (λ (k : ℕ). cond (leb (2 ^ w) (n % 2 ^ suc w)) (2 ^ k) 0 + number_of (to_bits w n)) (length-to_bits w n)
    ∙ ap (λ (k : ℕ). cond (leb (2 ^ w) (n % 2 ^ suc w)) (2 ^ w) 0 + k) (number-to_bits w n) ∙ sym (first_bit w n)

pub to_bits-same : (w n m : ℕ) → n % 2 ^ w ≡ m % 2 ^ w → to_bits w n ≡ to_bits w m
to_bits-same zero n m e = refl
to_bits-same (suc w) n m e =
    let h : n % 2 ^ w ≡ m % 2 ^ w = sym (shorter w n) ∙ ap (λ (k : ℕ). k % 2 ^ w) e ∙ shorter w m in
    let r : to_bits w n ≡ to_bits w m = to_bits-same w n m h in cc

pub to_bits-number : (bs : Bits) → to_bits (length bs) (number_of bs) ≡ bs
to_bits-number [] = refl
to_bits-number (b ∷ bs) =
    let m : number_of (b ∷ bs) % 2 ^ suc (length bs) ≡ number_of (b ∷ bs) = mod-eq_of_lt (number_below (b ∷ bs)) in
    let t : leb (2 ^ length bs) (number_of (b ∷ bs) % 2 ^ suc (length bs)) ≡ b = ap (λ (k : ℕ). leb (2 ^ length bs) k) m ∙ top b in
    let r : to_bits (length bs) (number_of (b ∷ bs)) ≡ bs = to_bits-same (length bs) (number_of (b ∷ bs)) (number_of bs) (low b) ∙ to_bits-number bs in cc
  where
    top : (b : Bool) → leb (2 ^ length bs) (number_of (b ∷ bs)) ≡ b
    top true = le-leb (2 ^ length bs) (2 ^ length bs + number_of bs) (omega arith)
    top false = lt-leb (2 ^ length bs) (0 + number_of bs) (omega (arith, number_below bs))

    low : (b : Bool) → number_of (b ∷ bs) % 2 ^ length bs ≡ number_of bs % 2 ^ length bs
    low true = ap (λ (k : ℕ). k % 2 ^ length bs) (add_comm (2 ^ length bs) (number_of bs)) ∙ add-mod_right (number_of bs) (2 ^ length bs)
    low false = ap (λ (k : ℕ). k % 2 ^ length bs) (omega arith)

leb-div : (m k x : ℕ) → 0 < k → leb (m * k) x ≡ leb m (x / k)
leb-div m k x h = elim (cases_lt x (m * k)) [
  | inl l ↦ lt-leb (m * k) x l ∙ sym (lt-leb m (x / k) (div_below x k m h l))
  | inr l ↦ le-leb (m * k) x l ∙ sym (le-leb m (x / k) (le-div m x k h l))
]

-- the high bits and the low bits
pub to_bits-split : (w v n : ℕ) → to_bits (w + v) n ≡ to_bits w (n / 2 ^ v) ++ to_bits v n
to_bits-split zero v n = ap (λ (k : ℕ). to_bits k n) (omega arith)
to_bits-split (suc w) v n = ap (λ (k : ℕ). to_bits k n) longer ∙ both (to_bits-split w v n)
  where
    longer : suc w + v ≡ suc (w + v)
    longer = omega arith

    top : leb (2 ^ (w + v)) (n % 2 ^ suc (w + v)) ≡ leb (2 ^ w) (n / 2 ^ v % 2 ^ suc w)
    top = ap (λ (k : ℕ). leb k (n % 2 ^ suc (w + v))) (pow-add 2 w v) ∙ leb-div (2 ^ w) (2 ^ v) (n % 2 ^ suc (w + v)) (pow_pos v)
        ∙ ap (λ (k : ℕ). leb (2 ^ w) (n % 2 ^ k / 2 ^ v)) (sym longer) ∙ ap (λ (k : ℕ). leb (2 ^ w) k) (field_of n (suc w) v)

    both : to_bits (w + v) n ≡ to_bits w (n / 2 ^ v) ++ to_bits v n → to_bits (suc (w + v)) n ≡ to_bits (suc w) (n / 2 ^ v) ++ to_bits v n
    both r = let t = top in cc

pub octet_power : (k : ℕ) → 256 ^ k ≡ 2 ^ (8 * k)
octet_power zero = refl
octet_power (suc k) = pow-suc 256 k ∙ ap (λ (m : ℕ). m * 256) (octet_power k) ∙ sym (pow-add 2 (8 * k) 8) ∙ ap (λ (m : ℕ). 2 ^ m) next
  where
    next : 8 * k + 8 ≡ 8 * suc k
    next = omega arith

-- ---- how wide a number is

below_power : (n : ℕ) → n < 2 ^ n
below_power zero = omega arith
below_power (suc n) = omega (arith, below_power n, pow-suc 2 n)

width_enough : (fuel w r : ℕ) → r ≤ 2 ^ (fuel + w) → r ≤ 2 ^ width_from fuel w r
unfolding width_from
width_enough zero w r h = subst (λ (k : ℕ). r ≤ 2 ^ k) (omega arith) h
width_enough (suc fuel) w r h = go (width_enough fuel (suc w) r (subst (λ (k : ℕ). r ≤ 2 ^ k) (omega arith) h)) (leb r (2 ^ w)) refl
  where
    go : r ≤ 2 ^ width_from fuel (suc w) r → (b : Bool) → leb r (2 ^ w) ≡ b → r ≤ 2 ^ (elim b [ true ↦ w | false ↦ width_from fuel (suc w) r ])
    go ih true e = leb-true r (2 ^ w) e
    go ih false e = ih

width_least_from : (fuel w r v : ℕ) → r ≤ 2 ^ v → w ≤ v → width_from fuel w r ≤ v
unfolding width_from
width_least_from zero w r v h l = l
width_least_from (suc fuel) w r v h l = go (λ k. width_least_from fuel (suc w) r v h k) (leb r (2 ^ w)) refl
  where
    further : 2 ^ w < r → suc w ≤ v
    further k = elim (cases_lt w v) [ inl m ↦ m | inr m ↦ absurd (omega (arith, pow_mono {i = v} {j = w} m)) ]

    go : (suc w ≤ v → width_from fuel (suc w) r ≤ v) → (b : Bool) → leb r (2 ^ w) ≡ b → (elim b [ true ↦ w | false ↦ width_from fuel (suc w) r ]) ≤ v
    go ih true e = l
    go ih false e = ih (further (leb-false r (2 ^ w) e))

-- 2 ^ width r is at least r, and no lower power is
pub width_holds : (r : ℕ) → r ≤ 2 ^ width r
unfolding width
width_holds r = width_enough r 0 r (subst (λ (k : ℕ). r ≤ 2 ^ k) (omega arith) (le_of_lt (below_power r)))

pub width_least : (r v : ℕ) → r ≤ 2 ^ v → width r ≤ v
unfolding width
width_least r v h = width_least_from r 0 r v h (omega arith)

-- the width of a number that has m digits in base 2
pub width_is : (n m : ℕ) → n < 2 ^ m → 2 ^ m ≤ 2 * n + 1 → width (n + 1) ≡ m
width_is n m h k = le_antisymm (width_least (n + 1) m (omega arith)) least
  where
    least : m ≤ width (n + 1)
    least = elim (cases_lt (width (n + 1)) m) [
      | inl l ↦
          (let p : 2 ^ suc (width (n + 1)) ≤ 2 ^ m = pow_mono l in
          absurd (omega (arith, width_holds (n + 1), pow-suc 2 (width (n + 1)))))
      | inr l ↦ l
    ]

-- a character's bits are enough for each place of its alphabet
pub wide_enough : (v : Variant) (alphabet : List ℕ) → length alphabet ≤ 2 ^ char_width v alphabet
wide_enough unaligned alphabet = width_holds (length alphabet)
wide_enough aligned alphabet = go (leb (length alphabet) 1) refl
  where
    go : (b : Bool) → leb (length alphabet) 1 ≡ b → length alphabet ≤ 2 ^ (cond b 0 (2 ^ width (width (length alphabet))))
    go true e = leb-true (length alphabet) 1 e
    go false e = le_trans (width_holds (length alphabet)) (pow_mono {i = width (length alphabet)} {j = 2 ^ width (width (length alphabet))} (width_holds (width (length alphabet))))

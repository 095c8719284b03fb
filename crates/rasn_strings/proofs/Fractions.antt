-- The fractions of a second.
use Rattle.std.proofs.Common.{◌≡◌, ◌≢◌, refl, sym, ap, ap₂, ◌∙◌, subst, ℕ, zero, suc, ◌+◌, ◌-◌, ◌*◌, ◌/◌, ◌%◌, ◌^◌, ◌<◌, ◌≤◌, Bool, true, false, ◌&&◌, ◌||◌, not, eqb, leb, List, [], ◌∷◌, ◌++◌, length, drop, take, get_or, ◌⊎◌, inl, inr, arith, le-leb, pow-suc, append_assoc}
use Rattle.std.proofs.lemmas.Bool.{ne_eqb, lt-leb}
use Rattle.std.proofs.lemmas.List.{take_all}
use Rattle.std.proofs.lemmas.Nat.{div-mul-add, mod-mul-add}
use Rattle.std.proofs.Math.Nat.{pow-le-pow_right, one-le-pow, div-lt_iff_lt-mul, mod-lt, mul-le-mul_right}
use borrow.Author.Tests.{eqb-false}
use Rattle.rasn_types.specs.Contents.{ends_well, is_z}
use Rattle.rasn_strings.specs.Moments.{fraction_digits, IsFractionOf}

pub unit_fits : (p : ℕ) → p ≤ 8 → 10 ^ p ≤ 100000000
unit_fits p h = let k : 10 ^ p ≤ 10 ^ 8 = pow-le-pow_right (omega arith) h in k

pub unit_some : (p : ℕ) → 0 < 10 ^ p
unit_some p = one-le-pow p 10 (omega arith)

-- a digit and what is after it
pub digit_of : (p n : ℕ) → n < 10 ^ suc p → n / 10 ^ p ≤ 9
digit_of p n h = let j : n < 10 ^ p * 10 = subst (λ (m : ℕ). n < m) (pow-suc 10 p) h in let k : n < 10 * 10 ^ p = omega arith in let l : n / 10 ^ p < 10 = (div-lt_iff_lt-mul (unit_some p)).1 k in omega arith

pub behind : (p n : ℕ) → n % 10 ^ p < 10 ^ p
behind p n = mod-lt n (unit_some p)

-- a number of a digit and what is after it
pub parts_of : (p d r : ℕ) → r < 10 ^ p → ((d * 10 ^ p + r) / 10 ^ p ≡ d) × ((d * 10 ^ p + r) % 10 ^ p ≡ r)
parts_of p d r h = (div-mul-add d (10 ^ p) r h, mod-mul-add d (10 ^ p) r h)

pub fraction_digits-zero : (p : ℕ) → fraction_digits p 0 ≡ []
unfolding fraction_digits
fraction_digits-zero zero = refl
fraction_digits-zero (suc p) = refl

pub fraction_digits-step : (p q n : ℕ) → n ≢ 0 → p ≡ q + 1 → fraction_digits p n ≡ (48 + n / 10 ^ q) ∷ fraction_digits q (n % 10 ^ q)
unfolding fraction_digits
fraction_digits-step zero q n h e = absurd (omega arith)
fraction_digits-step (suc p) q n h e = rw (ne_eqb n 0 h) (ap (λ (k : ℕ). (48 + n / 10 ^ k) ∷ fraction_digits k (n % 10 ^ k)) (let f : p ≡ q = omega arith in f))

-- ---- what is read

digit_false : (c : ℕ) (t : Bool) → (c < 48) ⊎ (57 < c) → (leb 48 c && (leb c 57 && t)) ≡ false
digit_false c t (inl h) = rw (lt-leb 48 c h) refl
digit_false c t (inr h) = rw (le-leb 48 c (omega arith), lt-leb c 57 h) refl

pub ends_not : (p : ℕ) (cs : List ℕ) → (p ≡ 0) ⊎ ((length cs ≡ 0) ⊎ ((get_or cs 0 0 < 48) ⊎ (57 < get_or cs 0 0))) → ends_well p cs ≡ false
ends_not p [] s = refl
ends_not zero (c ∷ cs) s = refl
ends_not (suc p) (c ∷ cs) (inl h) = absurd (omega arith)
ends_not (suc p) (c ∷ cs) (inr (inl h)) = absurd (omega arith)
ends_not (suc p) (c ∷ cs) (inr (inr h)) = digit_false c _ h

-- a digit that isn't 0 before the Z
pub last_digit : (p q u d : ℕ) (cs : List ℕ) → p ≡ q + 1 → u ≡ 10 ^ q → length cs ≡ 2 → get_or cs 1 0 ≡ 90 → (48 ≤ get_or cs 0 0) × (get_or cs 0 0 ≤ 57) → d ≡ get_or cs 0 0 - 48 → 0 < d * u → IsFractionOf p cs (d * u)
last_digit p q u d [] e f l z w g h = absurd (omega arith)
last_digit p q u d (c ∷ []) e f l z w g h = absurd (omega arith)
last_digit p q u d (c ∷ y ∷ x ∷ cs) e f l z w g h = absurd (omega arith)
last_digit zero q u d (c ∷ y ∷ []) e f l z w g h = absurd (omega arith)
last_digit (suc p) q u d (c ∷ y ∷ []) e f l z w g h = subst (λ (v : ℕ). IsFractionOf (suc p) (c ∷ y ∷ []) (d * v)) (sym unit) (record {
  lawful = rw (le-leb 48 c w.0, le-leb c 57 w.1, ne_eqb c 48 (λ i. omega (arith, nought i)), z) refl;
  some = subst (λ (v : ℕ). 0 < d * v) unit h;
  below = subst (λ (v : ℕ). d * 10 ^ p < v) (sym (pow-suc 10 p)) (let i : d ≤ 9 = omega arith in let j = mul-le-mul_right (10 ^ p) i in let k = unit_some p in omega arith);
  written = ap (λ xs. xs ++ 90 ∷ []) (fraction_digits-step (suc p) p (d * 10 ^ p) (λ i. let j = subst (λ (v : ℕ). 0 < d * v) unit h in omega arith) (omega arith)
      ∙ ap₂ (λ (a b : ℕ). (48 + a) ∷ fraction_digits p b) (ap (λ (m : ℕ). m / 10 ^ p) (let i : d * 10 ^ p ≡ d * 10 ^ p + 0 = omega arith in i) ∙ (parts_of p d 0 (unit_some p)).0) (ap (λ (m : ℕ). m % 10 ^ p) (let i : d * 10 ^ p ≡ d * 10 ^ p + 0 = omega arith in i) ∙ (parts_of p d 0 (unit_some p)).1))
      ∙ ap (λ xs. (48 + d) ∷ (xs ++ 90 ∷ [])) (fraction_digits-zero p) ∙ ap₂ (λ (a b : ℕ). a ∷ b ∷ []) (let i : 48 + d ≡ c = let j = w.0 in omega arith in i) (sym z);
})
  where
    unit : u ≡ 10 ^ p
    unit = f ∙ ap (λ (k : ℕ). 10 ^ k) (let i : q ≡ p = omega arith in i)

    nought : c ≡ 48 → ⊥
    nought i = let j : d ≡ 0 = omega arith in let k : 0 < 0 * u = subst (λ (v : ℕ). 0 < v * u) j h in omega arith

-- a digit before others
pub next_digit : (p q u d r : ℕ) (cs : List ℕ) → p ≡ q + 1 → u ≡ 10 ^ q → length cs ≢ 0 → (48 ≤ get_or cs 0 0) × (get_or cs 0 0 ≤ 57) → d ≡ get_or cs 0 0 - 48 → IsFractionOf q (take (length cs - 1) (drop 1 cs)) r → IsFractionOf p cs (d * u + r)
next_digit p q u d r [] e f l w g m = absurd (l refl)
next_digit zero q u d r (c ∷ cs) e f l w g m = absurd (omega arith)
next_digit (suc p) q u d r (c ∷ cs) e f l w g m = subst (λ (v : ℕ). IsFractionOf (suc p) (c ∷ cs) (d * v + r)) (sym unit) (record {
  lawful = rw (le-leb 48 c w.0, le-leb c 57 w.1, n.lawful) (or_true ((not (eqb c 48)) && is_z cs));
  some = let i = n.some in omega arith;
  below = subst (λ (v : ℕ). d * 10 ^ p + r < v) (sym (pow-suc 10 p)) (let i : d ≤ 9 = omega arith in let j = mul-le-mul_right (10 ^ p) i in let k = n.below in omega arith);
  written = ap (λ xs. xs ++ 90 ∷ []) (fraction_digits-step (suc p) p (d * 10 ^ p + r) (λ i. let j = n.some in omega arith) (omega arith)
      ∙ ap₂ (λ (a b : ℕ). (48 + a) ∷ fraction_digits p b) (parts_of p d r n.below).0 (parts_of p d r n.below).1)
      ∙ ap₂ (λ (a : ℕ) xs. a ∷ xs) (let i : 48 + d ≡ c = let j = w.0 in omega arith in i) n.written;
})
  where
    same : q ≡ p
    same = omega arith

    unit : u ≡ 10 ^ p
    unit = f ∙ ap (λ (k : ℕ). 10 ^ k) same

    or_true : (b : Bool) → (b || true) ≡ true
    or_true true = refl
    or_true false = refl

    n : IsFractionOf p cs r
    n = subst (λ (k : ℕ). IsFractionOf k cs r) same (subst (λ xs. IsFractionOf q xs r) (take_all (length (c ∷ cs) - 1) cs (omega arith)) m)

pub digits_not : (p q u d : ℕ) (cs : List ℕ) → p ≡ q + 1 → u ≡ 10 ^ q → length cs ≢ 0 → (48 ≤ get_or cs 0 0) × (get_or cs 0 0 ≤ 57) → d ≡ get_or cs 0 0 - 48 → (0 < d * u → length cs ≡ 2 → get_or cs 1 0 ≢ 90) →
    ends_well q (take (length cs - 1) (drop 1 cs)) ≡ false → ends_well p cs ≡ false
digits_not p q u d [] e f l w g h m = absurd (l refl)
digits_not zero q u d (c ∷ cs) e f l w g h m = absurd (omega arith)
digits_not (suc p) q u d (c ∷ cs) e f l w g h m = rw (le-leb 48 c w.0, le-leb c 57 w.1, n) (last cs h (eqb c 48) refl)
  where
    same : q ≡ p
    same = omega arith

    n : ends_well p cs ≡ false
    n = subst (λ (k : ℕ). ends_well k cs ≡ false) same (subst (λ xs. ends_well q xs ≡ false) (take_all (length (c ∷ cs) - 1) cs (omega arith)) m)

    some : (c ≡ 48 → ⊥) → 0 < d * u
    some i = let k = unit_some q in let j : 1 ≤ d = omega (arith, apart i) in let r = mul-le-mul_right u j in omega arith
      where
        apart : (c ≡ 48 → ⊥) → 49 ≤ c
        apart i = let k = w.0 in omega arith

    last : (xs : List ℕ) → (0 < d * u → length (c ∷ xs) ≡ 2 → get_or (c ∷ xs) 1 0 ≢ 90) → (b : Bool) → eqb c 48 ≡ b → ((not b && is_z xs) || false) ≡ false
    last xs k true i = refl
    last [] k false i = refl
    last (x ∷ []) k false i = rw (ne_eqb x 90 (k (some (eqb-false c 48 i)) refl)) refl
    last (x ∷ y ∷ xs) k false i = refl

pub mul_fits : (d u q : ℕ) → d ≤ 9 → u ≡ 10 ^ q → q ≤ 8 → d * u ≤ 900000000
mul_fits d u q h e l = let i = unit_fits q l in let j = mul-le-mul_right u h in omega arith

-- ---- what is written

pub none_left : (p n : ℕ) → (n ≡ 0) ⊎ (p ≡ 0) → fraction_digits p n ≡ []
unfolding fraction_digits
none_left p n (inl e) = ap (λ (m : ℕ). fraction_digits p m) e ∙ fraction_digits-zero p
none_left p n (inr e) = ap (λ (k : ℕ). fraction_digits k n) e

pub digits_on : (old mid new : List ℕ) (p q n u : ℕ) → n ≢ 0 → p ≡ q + 1 → u ≡ 10 ^ q → mid ≡ old ++ (48 + n / u) ∷ [] → new ≡ mid ++ fraction_digits q (n % u) → new ≡ old ++ fraction_digits p n
digits_on old mid new p q n u h e f i j = j ∙ ap (λ xs. xs ++ fraction_digits q (n % u)) i ∙ append_assoc old _ _ ∙ ap (λ (v : ℕ). old ++ ((48 + n / v) ∷ fraction_digits q (n % v))) f ∙ ap (λ xs. old ++ xs) (sym (fraction_digits-step p q n h e))

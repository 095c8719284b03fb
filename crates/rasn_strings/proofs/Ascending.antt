-- Ascending numbers: walks over them, and the places that they are at.
use Rattle.std.proofs.Common.{◌≡◌, refl, sym, ap, ◌∙◌, subst, ℕ, zero, suc, ◌+◌, ◌-◌, ◌^◌, ◌<◌, ◌≤◌, ◌⊎◌, Bool, true, false, cond, ◌&&◌, ◌||◌, ltb, eqb, List, [], ◌∷◌, ◌++◌, length, filter, arith, inl, inr}
use Rattle.std.proofs.lemmas.Bool.{cases_Bool, ltb-true, ltb-false, lt-ltb, le-ltb, eqb-true, eq-eqb, and_from, and_right, or_cases, or_left, or_right, cond-true, cond-false}
use Rattle.rasn_types.specs.Alphabets.{has, restricted, interval_of, from_to}
use Rattle.rasn_strings.specs.Intervals.{expand, ascend_from, characters_of}
use Rattle.rasn_strings.specs.Walks.{from_on}
use Rattle.rasn_strings.specs.declared.intervals.Interval.{Interval}
use Rattle.rasn_strings.proofs.IntervalsOf.{step_first, has-append, has-characters_of, within_interval, length-expand}

-- numbers that ascend from n on
abbrev pub Up : ℕ → List ℕ → Type 0
Up n [] = Unit {0}
Up n (x ∷ xs) = (n ≤ x) × Up (suc x) xs

up_sooner : (m n : ℕ) (xs : List ℕ) → m ≤ n → Up n xs → Up m xs
up_sooner m n [] h u = tt
up_sooner m n (x ∷ xs) h u = let l : n ≤ x = u.0 in (omega arith, u.1)

up_append : (m n f : ℕ) (ys : List ℕ) → m ≤ f → Up (f + n) ys → Up m (from_to n f ++ ys)
up_append m zero f ys h u = up_sooner m (f + 0) ys (omega arith) u
up_append m (suc n) f ys h u = (h, up_append (suc f) n (suc f) ys (omega arith) (subst (λ k. Up k ys) (let e : f + suc n ≡ suc f + n = omega arith in e) u))

up_row : (m n f : ℕ) (ys : List ℕ) → m ≤ f → Up (f + n) ys → Up m (interval_of n f ++ ys)
unfolding interval_of
up_row m n f ys h u = up_append m n f ys h u

-- the characters of ascending intervals ascend
pub up-expand : (n : ℕ) (is : List Interval) → ascend_from n is ≡ true → Up n (expand is)
up-expand n [] e = tt
up-expand n (i ∷ is) e =
    let s = step_first n i is e in let s0 : n ≤ i.first = s.0 in let s1 : i.first ≤ i.last = s.1 in
    up_row n (i.last + 1 - i.first) i.first (expand is) s0 (subst (λ k. Up k (expand is)) (let e : i.last + 1 ≡ i.first + (i.last + 1 - i.first) = omega arith in e) (up-expand (i.last + 1) is s.3))

up-filter : (p : ℕ → Bool) (n : ℕ) (xs : List ℕ) → Up n xs → Up n (filter p xs)
up-filter p n [] u = tt
up-filter p n (x ∷ xs) u = go (p x) (up-filter p (suc x) xs u.1)
  where
    go : (b : Bool) → Up (suc x) (filter p xs) → Up n (cond b (x ∷ filter p xs) (filter p xs))
    go true r = (u.0, r)
    go false r = let l : n ≤ x = u.0 in up_sooner n (suc x) (filter p xs) (omega arith) r

-- those of them that a list permits ascend
pub up-restricted : (is : List Interval) (some : List ℕ) → ascend_from 0 is ≡ true → Up 0 (restricted (expand is) some)
up-restricted is some e = up-filter (has some) 0 (expand is) (up-expand 0 is e)

-- ---- what is permitted

has-filter : (p : ℕ → Bool) (xs : List ℕ) (c : ℕ) → has (filter p xs) c ≡ (has xs c && p c)
has-filter p [] c = refl
has-filter p (x ∷ xs) c = go (cases_Bool (p x)) (cases_Bool (eqb x c)) (has-filter p xs c)
  where
    go : (p x ≡ true) ⊎ (p x ≡ false) → (eqb x c ≡ true) ⊎ (eqb x c ≡ false) → has (filter p xs) c ≡ (has xs c && p c) → has (cond (p x) (x ∷ filter p xs) (filter p xs)) c ≡ ((eqb x c || has xs c) && p c)
    go (inl t) (inl e) r = let s : x ≡ c = eqb-true x c e in let pc : p c ≡ true = ap p (sym s) ∙ t in
        ap (λ ys. has ys c) (cond-true (p x) (x ∷ filter p xs) (filter p xs) t) ∙ or_left (eqb x c) _ e ∙ sym (and_from _ _ (or_left (eqb x c) _ e) pc)
    go (inl t) (inr e) r = ap (λ ys. has ys c) (cond-true (p x) (x ∷ filter p xs) (filter p xs) t) ∙ ap (λ (b : Bool). b || has (filter p xs) c) e ∙ r ∙ ap (λ (b : Bool). (b || has xs c) && p c) (sym e)
    go (inr f) (inl e) r = let s : x ≡ c = eqb-true x c e in let pc : p c ≡ false = ap p (sym s) ∙ f in
        ap (λ ys. has ys c) (cond-false (p x) (x ∷ filter p xs) (filter p xs) f) ∙ r ∙ and_right _ _ pc ∙ sym (and_right _ _ pc)
    go (inr f) (inr e) r = ap (λ ys. has ys c) (cond-false (p x) (x ∷ filter p xs) (filter p xs) f) ∙ r ∙ ap (λ (b : Bool). (b || has xs c) && p c) (sym e)

pub has-restricted : (own some : List ℕ) (c : ℕ) → has (restricted own some) c ≡ (has own c && has some c)
has-restricted own some c = has-filter (has some) own c

pub length-filter_le : (p : ℕ → Bool) (xs : List ℕ) → length (filter p xs) ≤ length xs
length-filter_le p [] = omega arith
length-filter_le p (x ∷ xs) = go (p x) (length-filter_le p xs)
  where
    go : (b : Bool) → length (filter p xs) ≤ length xs → length (cond b (x ∷ filter p xs) (filter p xs)) ≤ suc (length xs)
    go true r = omega arith
    go false r = omega arith

pub length-restricted : (is : List Interval) (some : List ℕ) → ascend_from 0 is ≡ true → length (restricted (expand is) some) ≤ 2 ^ 16
length-restricted is some e = let l = length-filter_le (has some) (expand is) in let m = length-expand 0 is (omega arith) e in omega arith

-- a character of ascending intervals
pub small : (n : ℕ) (is : List Interval) (c : ℕ) → ascend_from n is ≡ true → has (expand is) c ≡ true → c < 2 ^ 16
small n [] c e h = absurd (cc)
small n (i ∷ is) c e h = let s = step_first n i is e in elim (or_cases _ _ (sym (has-append (characters_of i) (expand is) c) ∙ h)) [
  | inl l ↦ let w = within_interval i c (sym l ∙ has-characters_of i c) in let w1 : c ≤ i.last = w.1 in let s2 : i.last < 2 ^ 16 = s.2 in omega arith
  | inr r ↦ small (i.last + 1) is c s.3 r
]

-- ---- walks

-- from the least on, all are left
pub from_on-all : (m n : ℕ) (xs : List ℕ) → m ≤ n → Up n xs → from_on m xs ≡ xs
from_on-all m n [] h u = refl
from_on-all m n (x ∷ xs) h u = let l : n ≤ x = u.0 in cond-false (ltb x m) _ _ (le-ltb x m (omega arith))

-- the first that is left is one of the numbers, not below n
pub from_on-first : (n : ℕ) (xs : List ℕ) (c : ℕ) (cs : List ℕ) → from_on n xs ≡ c ∷ cs → (has xs c ≡ true) × (n ≤ c)
from_on-first n [] c cs e = absurd (cc)
from_on-first n (x ∷ xs) c cs e = go (cases_Bool (ltb x n)) (from_on-first n xs c cs)
  where
    go : (ltb x n ≡ true) ⊎ (ltb x n ≡ false) → (from_on n xs ≡ c ∷ cs → (has xs c ≡ true) × (n ≤ c)) → (has (x ∷ xs) c ≡ true) × (n ≤ c)
    go (inl t) r = let q = r (sym (cond-true (ltb x n) _ _ t) ∙ e) in (or_right (eqb x c) _ q.0, q.1)
    go (inr f) r = let k : x ∷ xs ≡ c ∷ cs = sym (cond-false (ltb x n) _ _ f) ∙ e in let j : x ≡ c = cc in
        (or_left (eqb x c) _ (eq-eqb x c j), let b = ltb-false x n f in omega arith)

-- what is left after it begins after it
pub from_on-next : (m n : ℕ) (xs : List ℕ) (c : ℕ) (cs : List ℕ) → Up m xs → from_on n xs ≡ c ∷ cs → from_on (c + 1) xs ≡ cs
from_on-next m n [] c cs u e = absurd (cc)
from_on-next m n (x ∷ xs) c cs u e = go (cases_Bool (ltb x n)) (from_on-next (suc x) n xs c cs u.1)
  where
    go : (ltb x n ≡ true) ⊎ (ltb x n ≡ false) → (from_on n xs ≡ c ∷ cs → from_on (c + 1) xs ≡ cs) → cond (ltb x (c + 1)) (from_on (c + 1) xs) (x ∷ xs) ≡ cs
    go (inl t) r = let q : from_on n xs ≡ c ∷ cs = sym (cond-true (ltb x n) _ _ t) ∙ e in
        let f = from_on-first n xs c cs q in let f1 : n ≤ c = f.1 in let b = ltb-true x n t in
        cond-true (ltb x (c + 1)) _ _ (lt-ltb x (c + 1) (omega arith)) ∙ r q
    go (inr f) r = let k : x ∷ xs ≡ c ∷ cs = sym (cond-false (ltb x n) _ _ f) ∙ e in let j : x ≡ c = cc in let i : xs ≡ cs = cc in
        cond-true (ltb x (c + 1)) _ _ (lt-ltb x (c + 1) (omega arith)) ∙ from_on-all (c + 1) (suc x) xs (omega arith) u.1 ∙ i

-- each number not below n is left, and the first that is left is the least
pub from_on-least : (m n : ℕ) (xs : List ℕ) (d : ℕ) → Up m xs → has xs d ≡ true → n ≤ d → (c : ℕ) × (cs : List ℕ) × (from_on n xs ≡ c ∷ cs) × (c ≤ d)
from_on-least m n [] d u h l = absurd (cc)
from_on-least m n (x ∷ xs) d u h l = go (cases_Bool (ltb x n)) (or_cases (eqb x d) (has xs d) h) (λ k. from_on-least (suc x) n xs d u.1 k l)
  where
    later_on : (y : ℕ) (ys : List ℕ) → Up (suc y) ys → has ys d ≡ true → y ≤ d
    later_on y [] v k = absurd (cc)
    later_on y (z ∷ zs) v k = let v0 : suc y ≤ z = v.0 in elim (or_cases (eqb z d) (has zs d) k) [
      | inl a ↦ let s = eqb-true z d a in omega arith
      | inr a ↦ let r = later_on z zs v.1 a in omega arith
    ]

    go : (ltb x n ≡ true) ⊎ (ltb x n ≡ false) → (eqb x d ≡ true) ⊎ (has xs d ≡ true) → (has xs d ≡ true → (c : ℕ) × (cs : List ℕ) × (from_on n xs ≡ c ∷ cs) × (c ≤ d)) → (c : ℕ) × (cs : List ℕ) × (cond (ltb x n) (from_on n xs) (x ∷ xs) ≡ c ∷ cs) × (c ≤ d)
    go (inl t) (inl a) r = let s = eqb-true x d a in let b = ltb-true x n t in absurd (omega arith)
    go (inl t) (inr a) r = let q = r a in (q.0, q.1, cond-true (ltb x n) _ _ t ∙ q.2, q.3)
    go (inr f) (inl a) r = let s = eqb-true x d a in (x, xs, cond-false (ltb x n) _ _ f, omega arith)
    go (inr f) (inr a) r = (x, xs, cond-false (ltb x n) _ _ f, later_on x xs u.1 a)

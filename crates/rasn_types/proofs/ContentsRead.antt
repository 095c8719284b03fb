-- Contents octets as they are read.
use Rattle.std.proofs.Common.{◌≡◌, refl, sym, ap, ◌∙◌, ℕ, zero, suc, ◌+◌, ◌*◌, ◌/◌, ◌%◌, ◌^◌, ◌<◌, ◌≤◌, ◌⊎◌, inl, inr, Bool, true, false, cond, not, ◌&&◌, ◌||◌, eqb, ltb, List, [], ◌∷◌, ◌++◌, Some, None, arith, append_assoc, true≢false, lt-ltb}
use Rattle.std.proofs.lemmas.Bool.{cases_lt, le-ltb, ne_eqb}
use Rattle.std.specs.List.{list_all}
use Rattle.rasn_types.specs.Contents.{next_arc, arcs_after, is_identifier}
use Rattle.rasn_types.specs.Identifiers.{leading_octets, subidentifier, subidentifiers, are_arcs, contents, begun_arc}
use borrow.Author.Tests.{ltb-true}
use Rattle.rasn_types.proofs.Writing.{leading_octets-zero}

-- ---- tests

pub both_left : (a b : Bool) → (a && b) ≡ true → a ≡ true
both_left true b e = refl
both_left false b e = e

pub both_right : (a b : Bool) → (a && b) ≡ true → b ≡ true
both_right true b e = e
both_right false b e = absurd (true≢false (sym e))

-- a first arc is at most 2
root_small : (a : ℕ) (t : Bool) → (eqb a 2 || (ltb a 2 && t)) ≡ true → a ≤ 2
root_small a t e = elim (cases_lt 2 a) [
  | inl h ↦ absurd (true≢false (sym e ∙ rw (ne_eqb a 2 (λ f. omega arith), le-ltb a 2 (omega arith)) refl))
  | inr h ↦ h
]

-- ---- one octet

-- a number that has begun isn't 0
pub begun-positive : (b o : ℕ) → 128 ≤ o → o < 256 → (ltb 0 b || not (eqb o 128)) ≡ true → 0 < 128 * b + o % 128
begun-positive zero o h l f = elim (cases_lt 128 o) [
  | inl k ↦ omega arith
  | inr k ↦ absurd (true≢false (sym f ∙ ap (λ (n : ℕ). ltb 0 0 || not (eqb n 128)) (let e : o ≡ 128 = omega arith in e)))
]
begun-positive (suc b) o h l f = omega arith

pub next_arc-on : (b o limit : ℕ) → 128 ≤ o → o < 256 → 128 * b + o % 128 < limit → (ltb 0 b || not (eqb o 128)) ≡ true → next_arc (begun_arc b limit) o ≡ Some (begun_arc (128 * b + o % 128) limit)
next_arc-on b o limit h l k f = rw (lt-ltb o 256 l, lt-ltb (128 * b + o % 128) limit k, f, le-ltb o 128 h, lt-ltb 0 (128 * b + o % 128) (begun-positive b o h l f)) refl

pub next_arc-end : (b o limit : ℕ) → o < 128 → 128 * b + o % 128 < limit → next_arc (begun_arc b limit) o ≡ Some (begun_arc 0 (2 ^ 32))
next_arc-end b o limit h k = rw (lt-ltb o 256 (omega arith), lt-ltb (128 * b + o % 128) limit k, ne_eqb o 128 (λ e. omega arith), lt-ltb o 128 h) (last (ltb 0 b))
  where
    last : (t : Bool) → cond (t || true) (Some (begun_arc 0 (2 ^ 32))) None ≡ Some (begun_arc 0 (2 ^ 32))
    last true = refl
    last false = refl

-- ---- subidentifiers

pub arcs_after-leading : (most n limit : ℕ) (os : List ℕ) → n ≤ most → n < limit → arcs_after (Some (begun_arc 0 limit)) (leading_octets most n ++ os) ≡ arcs_after (Some (begun_arc n limit)) os
unfolding leading_octets
arcs_after-leading most zero limit os h k = ap (λ xs. arcs_after (Some (begun_arc 0 limit)) (xs ++ os)) (leading_octets-zero most)
arcs_after-leading zero (suc n) limit os h k = absurd (omega arith)
arcs_after-leading (suc most) (suc n) limit os h k = rw (ne_eqb (suc n) 0 (λ e. omega arith), append_assoc (leading_octets most (suc n / 128)) ((128 + suc n % 128) ∷ []) os)
    (arcs_after-leading most (suc n / 128) limit ((128 + suc n % 128) ∷ os) (omega arith) (omega arith) ∙ ap (λ c. arcs_after c os) step)
  where
    same : 128 * (suc n / 128) + (128 + suc n % 128) % 128 ≡ suc n
    same = omega arith

    fewest : (m : ℕ) → suc n / 128 ≡ m → (ltb 0 m || not (eqb (128 + suc n % 128) 128)) ≡ true
    fewest zero e = rw (ne_eqb (128 + suc n % 128) 128 (λ f. omega arith)) refl
    fewest (suc m) e = rw (lt-ltb 0 (suc m) (omega arith)) refl

    step : next_arc (begun_arc (suc n / 128) limit) (128 + suc n % 128) ≡ Some (begun_arc (suc n) limit)
    step = next_arc-on (suc n / 128) (128 + suc n % 128) limit (omega arith) (omega arith) (omega arith) (fewest (suc n / 128) refl) ∙ ap (λ (m : ℕ). Some (begun_arc m limit)) same

pub arcs_after-subidentifier : (n limit : ℕ) (os : List ℕ) → n < limit → arcs_after (Some (begun_arc 0 limit)) (subidentifier n ++ os) ≡ arcs_after (Some (begun_arc 0 (2 ^ 32))) os
unfolding subidentifier
arcs_after-subidentifier n limit os h = rw (append_assoc (leading_octets n (n / 128)) (n % 128 ∷ []) os)
    (arcs_after-leading n (n / 128) limit (n % 128 ∷ os) (omega arith) (omega arith) ∙ ap (λ c. arcs_after c os) (next_arc-end (n / 128) (n % 128) limit (omega arith) (omega arith)))

pub arcs_after-subidentifiers : (ns : List ℕ) → list_all (λ arc. ltb arc (2 ^ 32)) ns ≡ true → arcs_after (Some (begun_arc 0 (2 ^ 32))) (subidentifiers ns) ≡ true
arcs_after-subidentifiers [] h = refl
arcs_after-subidentifiers (n ∷ ns) h = arcs_after-subidentifier n (2 ^ 32) (subidentifiers ns) (ltb-true n (2 ^ 32) (both_left (ltb n (2 ^ 32)) _ h)) ∙ arcs_after-subidentifiers ns (both_right (ltb n (2 ^ 32)) _ h)

-- ---- what octets mean, the number so far being n

abbrev pub numbers_from : ℕ → List ℕ → List ℕ
numbers_from n [] = []
numbers_from n (o ∷ os) = cond (ltb o 128) ((128 * n + o) ∷ numbers_from 0 os) (numbers_from (128 * n + o % 128) os)

numbers-leading : (most n : ℕ) (os : List ℕ) → n ≤ most → numbers_from 0 (leading_octets most n ++ os) ≡ numbers_from n os
unfolding leading_octets
numbers-leading most zero os h = ap (λ xs. numbers_from 0 (xs ++ os)) (leading_octets-zero most)
numbers-leading zero (suc n) os h = absurd (omega arith)
numbers-leading (suc most) (suc n) os h = rw (ne_eqb (suc n) 0 (λ e. omega arith), append_assoc (leading_octets most (suc n / 128)) ((128 + suc n % 128) ∷ []) os)
    (numbers-leading most (suc n / 128) ((128 + suc n % 128) ∷ os) (omega arith) ∙ rw (le-ltb (128 + suc n % 128) 128 (omega arith)) (ap (λ (m : ℕ). numbers_from m os) (let e : 128 * (suc n / 128) + (128 + suc n % 128) % 128 ≡ suc n = omega arith in e)))

numbers-subidentifier : (n : ℕ) (os : List ℕ) → numbers_from 0 (subidentifier n ++ os) ≡ n ∷ numbers_from 0 os
unfolding subidentifier
numbers-subidentifier n os = rw (append_assoc (leading_octets n (n / 128)) (n % 128 ∷ []) os)
    (numbers-leading n (n / 128) (n % 128 ∷ os) (omega arith) ∙ rw (lt-ltb (n % 128) 128 (omega arith)) (ap (λ (m : ℕ). m ∷ numbers_from 0 os) (let e : 128 * (n / 128) + n % 128 ≡ n = omega arith in e)))

numbers-subidentifiers : (ns : List ℕ) → numbers_from 0 (subidentifiers ns) ≡ ns
numbers-subidentifiers [] = refl
numbers-subidentifiers (n ∷ ns) = numbers-subidentifier n (subidentifiers ns) ∙ ap (λ xs. n ∷ xs) (numbers-subidentifiers ns)

-- ---- the laws

-- a subidentifier has an octet
abbrev IsThere : List ℕ → Type 0
IsThere os = (os ≡ [] → ⊥)

pub after_there : (os : List ℕ) → IsThere os → is_identifier os ≡ arcs_after (Some (begun_arc 0 (2 ^ 32 + 80))) os
unfolding is_identifier
after_there [] h = absurd (h refl)
after_there (o ∷ os) h = refl

subidentifiers-there : (n : ℕ) (ns : List ℕ) → IsThere (subidentifiers (n ∷ ns))
subidentifiers-there n ns e = let d = numbers-subidentifiers (n ∷ ns) in absurd (let f : [] ≡ n ∷ ns = sym (ap (numbers_from 0) e) ∙ d in cc)

pub is_identifier-contents : (numbers : List ℕ) → is_identifier (contents numbers) ≡ are_arcs numbers
unfolding contents is_identifier
is_identifier-contents [] = refl
is_identifier-contents (a ∷ []) = refl
is_identifier-contents (a ∷ b ∷ cs) = go (are_arcs (a ∷ b ∷ cs)) refl
  where
    below : are_arcs (a ∷ b ∷ cs) ≡ true → 40 * a + b < 2 ^ 32 + 80
    below e = let l : b < 2 ^ 32 = ltb-true b (2 ^ 32) (both_left (ltb b (2 ^ 32)) _ (both_right (eqb a 2 || (ltb a 2 && ltb b 40)) _ e)) in let k : a ≤ 2 = root_small a _ (both_left _ _ e) in omega arith

    go : (t : Bool) → are_arcs (a ∷ b ∷ cs) ≡ t → is_identifier (cond t (subidentifiers ((40 * a + b) ∷ cs)) []) ≡ t
    go true e = after_there (subidentifiers ((40 * a + b) ∷ cs)) (subidentifiers-there (40 * a + b) cs)
        ∙ arcs_after-subidentifier (40 * a + b) (2 ^ 32 + 80) (subidentifiers cs) (below e)
        ∙ arcs_after-subidentifiers cs (both_right (ltb b (2 ^ 32)) _ (both_right (eqb a 2 || (ltb a 2 && ltb b 40)) _ e))
    go false e = refl

-- two pairs of first arcs that make one subidentifier are one
same_first : (a b c d : ℕ) → (eqb a 2 || (ltb a 2 && ltb b 40)) ≡ true → (eqb c 2 || (ltb c 2 && ltb d 40)) ≡ true → 40 * a + b ≡ 40 * c + d → a ≡ c
same_first a b c d h k e = elim (root a b h) [
  | inl f ↦ (elim (root c d k) [ inl g ↦ f ∙ sym g | inr g ↦ absurd (let i = g.0 in let j = g.1 in omega arith) ])
  | inr f ↦ (elim (root c d k) [ inl g ↦ absurd (let i = f.0 in let j = f.1 in omega arith) | inr g ↦ (let i = f.0 in let j = f.1 in let m = g.0 in let n = g.1 in omega arith) ])
]
  where
    root : (x y : ℕ) → (eqb x 2 || (ltb x 2 && ltb y 40)) ≡ true → (x ≡ 2) ⊎ ((x < 2) × (y < 40))
    root x y r = elim (cases_lt x 2) [
      | inl l ↦ inr (l, ltb-true y 40 (sym (let f : (eqb x 2 || (ltb x 2 && ltb y 40)) ≡ ltb y 40 = rw (ne_eqb x 2 (λ i. omega arith), lt-ltb x 2 l) refl in f) ∙ r))
      | inr l ↦ inl (let m : x ≤ 2 = root_small x _ r in omega arith)
    ]

pub one_contents : (arcs others : List ℕ) → are_arcs arcs ≡ true → are_arcs others ≡ true → contents arcs ≡ contents others → arcs ≡ others
unfolding contents
one_contents [] others h k e = absurd (true≢false (sym h))
one_contents (a ∷ []) others h k e = absurd (true≢false (sym h))
one_contents (a ∷ b ∷ cs) [] h k e = absurd (true≢false (sym k))
one_contents (a ∷ b ∷ cs) (d ∷ []) h k e = absurd (true≢false (sym k))
one_contents (a ∷ b ∷ cs) (d ∷ f ∷ gs) h k e = let i = first in let j = root in let o : b ≡ f = omega arith in let r : cs ≡ gs = cc numbers in cc
  where
    spelled : (x y : ℕ) (zs : List ℕ) → are_arcs (x ∷ y ∷ zs) ≡ true → contents (x ∷ y ∷ zs) ≡ subidentifiers ((40 * x + y) ∷ zs)
    spelled x y zs r = rw r refl

    numbers : (40 * a + b) ∷ cs ≡ (40 * d + f) ∷ gs
    numbers = sym (numbers-subidentifiers ((40 * a + b) ∷ cs)) ∙ ap (numbers_from 0) (sym (spelled a b cs h) ∙ e ∙ spelled d f gs k) ∙ numbers-subidentifiers ((40 * d + f) ∷ gs)

    first : 40 * a + b ≡ 40 * d + f
    first = cc numbers

    root : a ≡ d
    root = same_first a b d f (both_left _ _ h) (both_left _ _ k) first

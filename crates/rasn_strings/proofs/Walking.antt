-- One step of a walk over the permitted characters in ascending order.
use Rattle.std.proofs.Common.{◌≡◌, refl, sym, ap, ◌∙◌, subst, ℕ, zero, suc, ◌+◌, ◌≤◌, true, eqb, List, [], ◌∷◌, drop, Option, Some, None, slice_get, arith}
use Rattle.std.proofs.lemmas.Bool.{eq-eqb, ne_eqb, cond-true, cond-false}
use Rattle.rasn_types.specs.Alphabets.{restricted, index_of, more}
use Rattle.rasn_strings.specs.Intervals.{expand, ascend_from}
use Rattle.rasn_strings.specs.Walks.{from_on}
use Rattle.rasn_strings.specs.declared.intervals.Interval.{Interval}
use Rattle.rasn_strings.proofs.Ascending.{up-restricted, from_on-all, from_on-next, from_on-first}
use Rattle.rasn_strings.proofs.IntervalsOf.{later}

-- at the start all are left
pub begins : (is : List Interval) (some : List ℕ) → ascend_from 0 is ≡ true → from_on 0 (restricted (expand is) some) ≡ restricted (expand is) some
begins is some e = from_on-all 0 0 (restricted (expand is) some) (omega arith) (up-restricted is some e)

-- the next character, and what is left after it
pub record Next (n : ℕ) (c : ℕ) (alphabet : List ℕ) : Type 0 where
  pub left : from_on n alphabet ≡ c ∷ from_on (c + 1) alphabet
  pub from : n ≤ c

pub next_some : (is : List Interval) (some : List ℕ) (n c : ℕ) → ascend_from 0 is ≡ true → Some c ≡ slice_get (from_on n (restricted (expand is) some)) 0 → Next n c (restricted (expand is) some)
next_some is some n c a e = go (from_on n (restricted (expand is) some)) refl e
  where
    go : (left : List ℕ) → from_on n (restricted (expand is) some) ≡ left → ◌≡◌ {A = Option ℕ} (Some c) (slice_get left 0) → Next n c (restricted (expand is) some)
    go [] l e = absurd (cc)
    go (y ∷ ys) l e = let i : c ≡ y = cc in
        let r : from_on (y + 1) (restricted (expand is) some) ≡ ys = from_on-next 0 n (restricted (expand is) some) y ys (up-restricted is some a) l in
        let f = (from_on-first n (restricted (expand is) some) y ys l).1 in
        record { left = l ∙ ap (λ zs. y ∷ zs) (sym r) ∙ ap (λ (x : ℕ). x ∷ from_on (x + 1) (restricted (expand is) some)) (sym i); from = omega arith }

pub next_none : (is : List Interval) (some : List ℕ) (n : ℕ) → None ≡ slice_get (from_on n (restricted (expand is) some)) 0 → from_on n (restricted (expand is) some) ≡ []
next_none is some n e = go (from_on n (restricted (expand is) some)) e
  where
    go : (left : List ℕ) → ◌≡◌ {A = Option ℕ} None (slice_get left 0) → left ≡ []
    go [] e = refl
    go (y ∷ ys) e = absurd (cc)

-- the place of a character among those that are left: the next one, or after it
pub place_here : (k c d : ℕ) (xs ys : List ℕ) → xs ≡ d ∷ ys → d ≡ c → later k (index_of c xs) ≡ Some k
place_here k c d xs ys e h = ap (λ zs. later k (index_of c zs)) e ∙ ap (later k) (cond-true (eqb c d) (Some 0) (more (index_of c ys)) (eq-eqb c d (sym h))) ∙ ap (λ (n : ℕ). Some n) (omega arith)

pub place_after : (k c d : ℕ) (xs ys : List ℕ) → xs ≡ d ∷ ys → (d ≡ c → ⊥) → later k (index_of c xs) ≡ later (k + 1) (index_of c ys)
place_after k c d xs ys e h = ap (λ zs. later k (index_of c zs)) e ∙ ap (later k) (cond-false (eqb c d) (Some 0) (more (index_of c ys)) (ne_eqb c d (λ i. h (sym i)))) ∙ go (index_of c ys)
  where
    go : (o : Option ℕ) → later k (more o) ≡ later (k + 1) o
    go None = refl
    go (Some n) = ap (λ (m : ℕ). Some m) (omega arith)

-- the numbers after the k-th
pub drop_after : (k c : ℕ) (xs ys : List ℕ) → drop k xs ≡ c ∷ ys → drop (k + 1) xs ≡ ys
drop_after zero c xs ys e = subst (λ zs. drop 1 zs ≡ ys) (sym e) refl
drop_after (suc k) c [] ys e = absurd (cc)
drop_after (suc k) c (x ∷ xs) ys e = ap (λ n. drop n (x ∷ xs)) (let i : suc k + 1 ≡ suc (k + 1) = omega arith in i) ∙ drop_after k c xs ys e

pub get_dropped : (k : ℕ) (xs : List ℕ) → slice_get (drop k xs) 0 ≡ slice_get xs k
get_dropped zero xs = refl
get_dropped (suc k) [] = refl
get_dropped (suc k) (x ∷ xs) = get_dropped k xs

-- past the end nothing is left
pub get_past : (k n : ℕ) (xs : List ℕ) → k ≤ n → drop k xs ≡ [] → slice_get xs n ≡ None
get_past k n [] h e = refl
get_past zero n (x ∷ xs) h e = absurd (cc)
get_past (suc k) zero (x ∷ xs) h e = absurd (omega arith)
get_past (suc k) (suc n) (x ∷ xs) h e = get_past k n xs (omega arith) e

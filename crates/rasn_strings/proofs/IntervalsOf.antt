-- Rows of characters, and intervals of them: what they have, how many, and in which places.
use Rattle.std.proofs.Common.{◌≡◌, refl, sym, ap, ap₂, ◌∙◌, ℕ, zero, suc, ◌+◌, ◌-◌, ◌^◌, ◌<◌, ◌≤◌, ◌⊎◌, max, Bool, true, false, cond, ◌&&◌, ◌||◌, leb, ltb, eqb, List, [], ◌∷◌, ◌++◌, length, get_or, drop, Option, Some, None, slice_get, arith, length-append, inl, inr}
use Rattle.std.proofs.lemmas.Bool.{cases_lt, leb-true, ltb-true, le-leb, lt-leb, lt-ltb, le-ltb, eq-eqb, ne_eqb, and_parts, and_from, or_from, or_parts, eqb-true, eqb-false, cond-true, cond-false, cases_Bool, and_left, and_right, or_left, or_right}
use Rattle.std.proofs.lemmas.List.{at_drop_more}
use Rattle.std.proofs.Math.Bool.{or_assoc}
use Rattle.rasn_types.specs.Alphabets.{has, from_to, interval_of, more, index_of, greatest}
use Rattle.rasn_strings.specs.Intervals.{characters_of, expand, ascend_from}
use Rattle.rasn_strings.specs.declared.intervals.Interval.{Interval}

-- ---- rows

has_from_to_below : (n f c : ℕ) → c < f → has (from_to n f) c ≡ false
has_from_to_below zero f c h = refl
has_from_to_below (suc n) f c h = or_from (eqb f c) _ (ne_eqb f c (λ e. omega arith)) (has_from_to_below n (suc f) c (omega arith))

has_from_to_above : (n f c : ℕ) → f + n ≤ c → has (from_to n f) c ≡ false
has_from_to_above zero f c h = refl
has_from_to_above (suc n) f c h = or_from (eqb f c) _ (ne_eqb f c (λ e. omega arith)) (has_from_to_above n (suc f) c (omega arith))

has_from_to : (n f c : ℕ) → f ≤ c → c < f + n → has (from_to n f) c ≡ true
has_from_to zero f c h l = absurd (omega arith)
has_from_to (suc n) f c h l = elim (cases_lt f c) [
  | inl d ↦ or_right (eqb f c) _ (has_from_to n (suc f) c (omega arith) (omega arith))
  | inr d ↦ or_left (eqb f c) _ (eq-eqb f c (omega arith))
]

pub has-interval_of : (n f c : ℕ) → has (interval_of n f) c ≡ (leb f c && ltb c (f + n))
unfolding interval_of
has-interval_of n f c = elim (cases_lt c f) [
  | inl h ↦ has_from_to_below n f c h ∙ sym (and_left (leb f c) _ (lt-leb f c h))
  | inr h ↦ elim (cases_lt c (f + n)) [
    | inl l ↦ has_from_to n f c h l ∙ sym (ap₂ (λ (x y : Bool). x && y) (le-leb f c h) (lt-ltb c (f + n) l))
    | inr l ↦ has_from_to_above n f c l ∙ sym (and_right (leb f c) _ (le-ltb c (f + n) l))
  ]
]

length-from_to : (n f : ℕ) → length (from_to n f) ≡ n
length-from_to zero f = refl
length-from_to (suc n) f = ap suc (length-from_to n (suc f))

pub length-interval_of : (n f : ℕ) → length (interval_of n f) ≡ n
unfolding interval_of
length-interval_of n f = length-from_to n f

-- ---- intervals

pub has-append : (xs ys : List ℕ) (c : ℕ) → has (xs ++ ys) c ≡ (has xs c || has ys c)
has-append [] ys c = refl
has-append (x ∷ xs) ys c = ap (λ (b : Bool). eqb x c || b) (has-append xs ys c) ∙ sym (or_assoc (eqb x c) (has xs c) (has ys c))

-- what an interval has
pub has-characters_of : (i : Interval) (c : ℕ) → has (characters_of i) c ≡ (leb i.first c && leb c i.last)
has-characters_of i c = has-interval_of (i.last + 1 - i.first) i.first c ∙ elim (cases_lt c i.first) [
  | inl h ↦ and_left (leb i.first c) _ (lt-leb i.first c h) ∙ sym (and_left (leb i.first c) _ (lt-leb i.first c h))
  | inr h ↦ ap (λ (b : Bool). leb i.first c && b) (same h)
]
  where
    same : i.first ≤ c → ltb c (i.first + (i.last + 1 - i.first)) ≡ leb c i.last
    same h = elim (cases_lt i.last c) [
      | inl l ↦ le-ltb c _ (omega arith) ∙ sym (lt-leb c i.last l)
      | inr l ↦ lt-ltb c _ (omega arith) ∙ sym (le-leb c i.last l)
    ]

-- the intervals from the k-th on have what the k-th has, and what those after it have
pub has_next : (is : List Interval) (k c : ℕ) (i : Interval) → k < length is → has (expand (drop k is)) c ≡ ((leb (get_or is k i).first c && leb c (get_or is k i).last) || has (expand (drop (k + 1) is)) c)
has_next is k c i h = at_drop_more (λ js. has (expand js) c) is k i h
    ∙ has-append (characters_of (get_or is k i)) (expand (drop (k + 1) is)) c
    ∙ ap (λ (b : Bool). b || has (expand (drop (k + 1) is)) c) (has-characters_of (get_or is k i) c)

-- the interval that stands for what is read past the end
abbrev pub none : Interval
none = record { first = 0; last = 0 }

-- a character that the k-th interval has
pub has_here : (is : List Interval) (k c : ℕ) → k < length is → true ≡ (leb (get_or is k none).first c && leb c (get_or is k none).last) → has (expand (drop k is)) c ≡ true
has_here is k c h e = has_next is k c none h ∙ or_left _ _ (sym e)

-- and one that it doesn't have
pub has_further : (is : List Interval) (k c : ℕ) → k < length is → false ≡ (leb (get_or is k none).first c && leb c (get_or is k none).last) → has (expand (drop k is)) c ≡ has (expand (drop (k + 1) is)) c
has_further is k c h e = has_next is k c none h ∙ ap (λ (b : Bool). b || has (expand (drop (k + 1) is)) c) (sym e)

-- a character of the k-th interval
pub has_at : (is : List Interval) (k c : ℕ) (i : Interval) → slice_get is k ≡ Some i → (leb i.first c && leb c i.last) ≡ true → has (expand is) c ≡ true
has_at [] k c i g h = absurd cc
has_at (j ∷ js) zero c i g h = let e : j ≡ i = cc in has-append (characters_of j) (expand js) c ∙ or_left _ _ (has-characters_of j c ∙ ap (λ (l : Interval). leb l.first c && leb c l.last) e ∙ h)
has_at (j ∷ js) (suc k) c i g h = has-append (characters_of j) (expand js) c ∙ or_right (has (characters_of j) c) _ (has_at js k c i g h)

-- ---- what ascending intervals are

pub ascend_sooner : (m n : ℕ) (is : List Interval) → m ≤ n → ascend_from n is ≡ true → ascend_from m is ≡ true
ascend_sooner m n [] h e = refl
ascend_sooner m n (i ∷ is) h e = let p = and_parts (leb n i.first) _ e in let l = leb-true n i.first p.0 in and_from (leb m i.first) _ (le-leb m i.first (omega arith)) p.1

-- the k-th of them, and those after it
pub record Step (is : List Interval) (k : ℕ) (i : Interval) : Type 0 where
  pub ordered : i.first ≤ i.last
  pub small : i.last < 2 ^ 16
  pub rest : ascend_from 0 (drop (k + 1) is) ≡ true

pub step_first : (n : ℕ) (i : Interval) (is : List Interval) → ascend_from n (i ∷ is) ≡ true → (n ≤ i.first) × (i.first ≤ i.last) × (i.last < 2 ^ 16) × (ascend_from (i.last + 1) is ≡ true)
step_first n i is e =
    let p = and_parts (leb n i.first) _ e in
    let q = and_parts (leb i.first i.last) _ p.1 in
    let r = and_parts (ltb i.last (2 ^ 16)) _ q.1 in
    (leb-true n i.first p.0, leb-true i.first i.last q.0, ltb-true i.last (2 ^ 16) r.0, r.1)

pub step_at : (is : List Interval) (k n : ℕ) → k < length is → ascend_from n (drop k is) ≡ true → Step is k (get_or is k none)
step_at is k n h e = let s = step_first n (get_or is k none) (drop (k + 1) is) (sym (at_drop_more (ascend_from n) is k none h) ∙ e) in record { ordered = s.1; small = s.2; rest = ascend_sooner 0 ((get_or is k none).last + 1) (drop (k + 1) is) (omega arith) s.3 }

-- ---- how many characters

pub length-characters_of : (i : Interval) → length (characters_of i) ≡ i.last + 1 - i.first
length-characters_of i = length-interval_of (i.last + 1 - i.first) i.first

pub length_next : (is : List Interval) (k : ℕ) → k < length is → length (expand (drop k is)) ≡ (get_or is k none).last + 1 - (get_or is k none).first + length (expand (drop (k + 1) is))
length_next is k h = at_drop_more (λ js. length (expand js)) is k none h
    ∙ length-append (characters_of (get_or is k none)) (expand (drop (k + 1) is))
    ∙ ap (λ n. n + length (expand (drop (k + 1) is))) (length-characters_of (get_or is k none))

pub length-expand : (n : ℕ) (is : List Interval) → n ≤ 2 ^ 16 → ascend_from n is ≡ true → n + length (expand is) ≤ 2 ^ 16
length-expand n [] h e = omega arith
length-expand n (i ∷ is) h e =
    let s = step_first n i is e in
    let s0 : n ≤ i.first = s.0 in let s1 : i.first ≤ i.last = s.1 in let s2 : i.last < 2 ^ 16 = s.2 in
    let r : i.last + 1 + length (expand is) ≤ 2 ^ 16 = length-expand (i.last + 1) is (omega arith) s.3 in
    let l = length-append (characters_of i) (expand is) in let m = length-characters_of i in omega arith

-- ---- the greatest character

greatest-append : (xs ys : List ℕ) → greatest (xs ++ ys) ≡ max (greatest xs) (greatest ys)
greatest-append [] ys = omega arith
greatest-append (x ∷ xs) ys = let r = greatest-append xs ys in omega arith

greatest-from_to : (n f : ℕ) → greatest (from_to (suc n) f) ≡ f + n
greatest-from_to zero f = omega arith
greatest-from_to (suc n) f = let r : greatest (from_to (suc n) (suc f)) ≡ suc f + n = greatest-from_to n (suc f) in omega arith

greatest-interval_of : (n f : ℕ) → 0 < n → greatest (interval_of n f) ≡ f + n - 1
unfolding interval_of
greatest-interval_of zero f h = absurd (omega arith)
greatest-interval_of (suc n) f h = let r = greatest-from_to n f in omega arith

pub greatest-characters_of : (i : Interval) → i.first ≤ i.last → greatest (characters_of i) ≡ i.last
greatest-characters_of i h = greatest-interval_of (i.last + 1 - i.first) i.first (omega arith) ∙ omega arith

pub greatest_next : (is : List Interval) (k : ℕ) → k < length is → (get_or is k none).first ≤ (get_or is k none).last → greatest (expand (drop k is)) ≡ max (get_or is k none).last (greatest (expand (drop (k + 1) is)))
greatest_next is k h o = at_drop_more (λ js. greatest (expand js)) is k none h
    ∙ greatest-append (characters_of (get_or is k none)) (expand (drop (k + 1) is))
    ∙ ap (λ n. max n (greatest (expand (drop (k + 1) is)))) (greatest-characters_of (get_or is k none) o)

-- ---- the place of a character

-- so many places on
abbrev pub later : ℕ → Option ℕ → Option ℕ
later n None = None
later n (Some k) = Some (n + k)

pub more-later : (n : ℕ) (o : Option ℕ) → more (later n o) ≡ later (suc n) o
more-later n None = refl
more-later n (Some k) = ap (λ (m : ℕ). Some m) (omega arith)

pub later-zero : (o : Option ℕ) → later 0 o ≡ o
later-zero None = refl
later-zero (Some k) = ap (λ (m : ℕ). Some m) (omega arith)

pub later-later : (m n : ℕ) (o : Option ℕ) → later m (later n o) ≡ later (m + n) o
later-later m n None = refl
later-later m n (Some k) = ap (λ (i : ℕ). Some i) (omega arith)

eqb_other : (x c : ℕ) → eqb x c ≡ false → eqb c x ≡ false
eqb_other x c e = ne_eqb c x (λ h. eqb-false x c e (sym h))

pub index_of_none : (c : ℕ) (xs : List ℕ) → has xs c ≡ false → index_of c xs ≡ None
index_of_none c [] e = refl
index_of_none c (x ∷ xs) e = let p = or_parts (eqb x c) (has xs c) e in
    cond-false (eqb c x) _ _ (eqb_other x c p.0) ∙ ap more (index_of_none c xs p.1)

index_of_after : (c : ℕ) (xs ys : List ℕ) → has xs c ≡ false → index_of c (xs ++ ys) ≡ later (length xs) (index_of c ys)
index_of_after c [] ys e = sym (later-zero (index_of c ys))
index_of_after c (x ∷ xs) ys e = let p = or_parts (eqb x c) (has xs c) e in
    cond-false (eqb c x) _ _ (eqb_other x c p.0) ∙ ap more (index_of_after c xs ys p.1) ∙ more-later (length xs) (index_of c ys)

index_of_before : (c : ℕ) (xs ys : List ℕ) → has xs c ≡ true → index_of c (xs ++ ys) ≡ index_of c xs
index_of_before c [] ys e = absurd (cc)
index_of_before c (x ∷ xs) ys e = go (cases_Bool (eqb x c)) (index_of_before c xs ys)
  where
    go : (eqb x c ≡ true) ⊎ (eqb x c ≡ false) → (has xs c ≡ true → index_of c (xs ++ ys) ≡ index_of c xs) → cond (eqb c x) (Some 0) (more (index_of c (xs ++ ys))) ≡ cond (eqb c x) (Some 0) (more (index_of c xs))
    go (inl t) r = let s : eqb c x ≡ true = eq-eqb c x (sym (eqb-true x c t)) in cond-true (eqb c x) _ _ s ∙ sym (cond-true (eqb c x) _ _ s)
    go (inr f) r = ap (λ (o : Option ℕ). cond (eqb c x) (Some 0) (more o)) (r (sym (ap (λ (b : Bool). b || has xs c) f) ∙ e))

index_of-from_to : (c n f : ℕ) → f ≤ c → c < f + n → index_of c (from_to n f) ≡ Some (c - f)
index_of-from_to c zero f h l = absurd (omega arith)
index_of-from_to c (suc n) f h l = elim (cases_lt f c) [
  | inl d ↦ cond-false (eqb c f) _ _ (ne_eqb c f (λ e. omega arith)) ∙ ap more (index_of-from_to c n (suc f) (omega arith) (omega arith)) ∙ ap (λ (m : ℕ). Some m) (omega arith)
  | inr d ↦ cond-true (eqb c f) _ _ (eq-eqb c f (omega arith)) ∙ ap (λ (m : ℕ). Some m) (omega arith)
]

index_of-interval_of : (c n f : ℕ) → f ≤ c → c < f + n → index_of c (interval_of n f) ≡ Some (c - f)
unfolding interval_of
index_of-interval_of c n f h l = index_of-from_to c n f h l

-- an interval that has a character
pub within_interval : (i : Interval) (c : ℕ) → true ≡ (leb i.first c && leb c i.last) → (i.first ≤ c) × (c ≤ i.last)
within_interval i c e = let p = and_parts (leb i.first c) (leb c i.last) (sym e) in (leb-true i.first c p.0, leb-true c i.last p.1)

pub index_here : (is : List Interval) (k c : ℕ) → k < length is → true ≡ (leb (get_or is k none).first c && leb c (get_or is k none).last) → index_of c (expand (drop k is)) ≡ Some (c - (get_or is k none).first)
index_here is k c h e = let i : Interval = get_or is k none in
    let p = within_interval i c e in let p0 : i.first ≤ c = p.0 in let p1 : c ≤ i.last = p.1 in
    at_drop_more (λ js. index_of c (expand js)) is k none h
    ∙ index_of_before c (characters_of i) (expand (drop (k + 1) is)) (has-characters_of i c ∙ sym e)
    ∙ index_of-interval_of c (i.last + 1 - i.first) i.first p0 (omega arith)

pub index_further : (is : List Interval) (k c : ℕ) → k < length is → false ≡ (leb (get_or is k none).first c && leb c (get_or is k none).last) → index_of c (expand (drop k is)) ≡ later ((get_or is k none).last + 1 - (get_or is k none).first) (index_of c (expand (drop (k + 1) is)))
index_further is k c h e = let i : Interval = get_or is k none in
    at_drop_more (λ js. index_of c (expand js)) is k none h
    ∙ index_of_after c (characters_of i) (expand (drop (k + 1) is)) (has-characters_of i c ∙ sym e)
    ∙ ap (λ n. later n (index_of c (expand (drop (k + 1) is)))) (length-characters_of i)

-- ---- the character at a place

slice_get_before : (xs ys : List ℕ) (i : ℕ) → i < length xs → slice_get (xs ++ ys) i ≡ slice_get xs i
slice_get_before [] ys i h = absurd (omega arith)
slice_get_before (x ∷ xs) ys zero h = refl
slice_get_before (x ∷ xs) ys (suc i) h = slice_get_before xs ys i (omega arith)

slice_get_after : (xs ys : List ℕ) (i : ℕ) → slice_get (xs ++ ys) (length xs + i) ≡ slice_get ys i
slice_get_after [] ys i = ap (slice_get ys) (omega arith)
slice_get_after (x ∷ xs) ys i = ap (slice_get (x ∷ (xs ++ ys))) (let e : suc (length xs) + i ≡ suc (length xs + i) = omega arith in e) ∙ slice_get_after xs ys i

slice_get-from_to : (n f i : ℕ) → i < n → slice_get (from_to n f) i ≡ Some (f + i)
slice_get-from_to zero f i h = absurd (omega arith)
slice_get-from_to (suc n) f zero h = ap (λ (m : ℕ). Some m) (omega arith)
slice_get-from_to (suc n) f (suc i) h = slice_get-from_to n (suc f) i (omega arith) ∙ ap (λ (m : ℕ). Some m) (omega arith)

slice_get-interval_of : (n f i : ℕ) → i < n → slice_get (interval_of n f) i ≡ Some (f + i)
unfolding interval_of
slice_get-interval_of n f i h = slice_get-from_to n f i h

pub get_here : (is : List Interval) (k i : ℕ) → k < length is → i < (get_or is k none).last + 1 - (get_or is k none).first → slice_get (expand (drop k is)) i ≡ Some ((get_or is k none).first + i)
get_here is k i h l = let s : Interval = get_or is k none in let m = length-characters_of s in
    at_drop_more (λ js. slice_get (expand js) i) is k none h
    ∙ slice_get_before (characters_of s) (expand (drop (k + 1) is)) i (omega arith)
    ∙ slice_get-interval_of (s.last + 1 - s.first) s.first i l

pub get_further : (is : List Interval) (k i : ℕ) → k < length is → (get_or is k none).last + 1 - (get_or is k none).first ≤ i → slice_get (expand (drop k is)) i ≡ slice_get (expand (drop (k + 1) is)) (i - ((get_or is k none).last + 1 - (get_or is k none).first))
get_further is k i h l = let s : Interval = get_or is k none in let m = length-characters_of s in
    at_drop_more (λ js. slice_get (expand js) i) is k none h
    ∙ ap (slice_get (characters_of s ++ expand (drop (k + 1) is))) (let e : i ≡ length (characters_of s) + (i - (s.last + 1 - s.first)) = omega arith in e)
    ∙ slice_get_after (characters_of s) (expand (drop (k + 1) is)) (i - (s.last + 1 - s.first))

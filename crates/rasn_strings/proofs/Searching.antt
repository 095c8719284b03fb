-- Lists in strictly ascending order that have only characters of the type: they are what is permitted, and are searched.
use Rattle.std.proofs.Common.{◌≡◌, refl, sym, ap, ◌∙◌, subst, ℕ, zero, suc, ◌+◌, ◌-◌, ◌^◌, ◌<◌, ◌≤◌, ◌⊎◌, Bool, true, false, ◌&&◌, ◌||◌, leb, eqb, List, [], ◌∷◌, length, get_or, drop, Option, Some, None, slice_get, is_some, arith, inl, inr}
use Rattle.std.proofs.lemmas.Bool.{cases_Bool, cases_lt, leb-true, eqb-true, eq-eqb, ne_eqb, and_right, and_parts, and_from, or_cases, or_left, or_from, both_ways}
use Rattle.std.proofs.lemmas.List.{at_drop_more}
use Rattle.rasn_types.specs.Alphabets.{Alphabet, greatest, has, has_all, index_of, restricted, restricted_to}
use Rattle.rasn_strings.specs.Intervals.{expand, ascend_from}
use Rattle.rasn_strings.specs.Prepared.{IsPrepared, alphabet_of, is_in_order}
use Rattle.rasn_strings.specs.Walks.{rises_from}
use Rattle.rasn_strings.specs.declared.intervals.Interval.{Interval}
use Rattle.rasn_strings.proofs.Ascending.{Up, up-restricted, has-restricted, length-restricted}
use Rattle.rasn_strings.proofs.Codes.{index_at, index_of_has}
use Rattle.rasn_strings.proofs.IntervalsOf.{index_of_none}

pub up-rises : (n : ℕ) (xs : List ℕ) → rises_from n xs ≡ true → Up n xs
up-rises n [] e = tt
up-rises n (x ∷ xs) e = let p = and_parts (leb n x) (rises_from (x + 1) xs) e in
    (leb-true n x p.0, subst (λ k. Up k xs) (let i : x + 1 ≡ suc x = omega arith in i) (up-rises (x + 1) xs p.1))

-- ---- ascending lists that have the same numbers are the same

up_above : (n : ℕ) (xs : List ℕ) (c : ℕ) → Up n xs → has xs c ≡ true → n ≤ c
up_above n [] c u h = absurd (cc)
up_above n (x ∷ xs) c u h = let l : n ≤ x = u.0 in elim (or_cases (eqb x c) (has xs c) h) [
  | inl e ↦ let s = eqb-true x c e in omega arith
  | inr e ↦ let r = up_above (suc x) xs c u.1 e in omega arith
]

up_lacks : (n : ℕ) (xs : List ℕ) (c : ℕ) → Up n xs → c < n → has xs c ≡ false
up_lacks n xs c u l = elim (cases_Bool (has xs c)) [
  | inl t ↦ absurd (let r = up_above n xs c u t in omega arith)
  | inr f ↦ f
]

has_first : (x : ℕ) (xs : List ℕ) → has (x ∷ xs) x ≡ true
has_first x xs = or_left (eqb x x) (has xs x) (eq-eqb x x refl)

same_numbers : (m n : ℕ) (xs ys : List ℕ) → Up m xs → Up n ys → ((c : ℕ) → has xs c ≡ has ys c) → xs ≡ ys
same_numbers m n [] [] u v h = refl
same_numbers m n [] (y ∷ ys) u v h = absurd (both_ways (has [] y) refl (h y ∙ has_first y ys))
same_numbers m n (x ∷ xs) [] u v h = absurd (both_ways (has [] x) refl (sym (h x) ∙ has_first x xs))
same_numbers m n (x ∷ xs) (y ∷ ys) u v h = ap (λ (k : ℕ). k ∷ xs) first ∙ ap (λ zs. y ∷ zs) (same_numbers (suc x) (suc y) xs ys u.1 v.1 rest)
  where
    not_less : (a b : ℕ) (bs : List ℕ) → Up (suc b) bs → has (b ∷ bs) a ≡ true → b ≤ a
    not_less a b bs w k = up_above b (b ∷ bs) a ((let l : b ≤ b = omega arith in l), w) k

    first : x ≡ y
    first = let p = not_less x y ys v.1 (sym (h x) ∙ has_first x xs) in let q = not_less y x xs u.1 (h y ∙ has_first y ys) in omega arith

    rest : (c : ℕ) → has xs c ≡ has ys c
    rest c = elim (cases_Bool (eqb x c)) [
      | inl t ↦ let s = eqb-true x c t in up_lacks (suc x) xs c u.1 (omega arith) ∙ sym (up_lacks (suc y) ys c v.1 (omega (arith, first)))
      | inr f ↦ sym (ap (λ (b : Bool). b || has xs c) f) ∙ h c ∙ ap (λ (b : Bool). b || has ys c) (ap (λ (k : ℕ). eqb k c) (sym first) ∙ f)
    ]

all_has : (own cs : List ℕ) (c : ℕ) → has_all own cs ≡ true → has cs c ≡ true → has own c ≡ true
all_has own [] c e h = absurd (cc)
all_has own (d ∷ cs) c e h = let p = and_parts (has own d) (has_all own cs) e in elim (or_cases (eqb d c) (has cs c) h) [
  | inl t ↦ ap (has own) (sym (eqb-true d c t)) ∙ p.0
  | inr t ↦ all_has own cs c p.1 t
]

-- such a list is what is permitted
pub restricted_listed : (is : List Interval) (some : List ℕ) → ascend_from 0 is ≡ true → (rises_from 0 some && has_all (expand is) some) ≡ true → restricted (expand is) some ≡ some
restricted_listed is some a e = let p = and_parts (rises_from 0 some) (has_all (expand is) some) e in
    same_numbers 0 0 (restricted (expand is) some) some (up-restricted is some a) (up-rises 0 some p.0) (λ c. has-restricted (expand is) some c ∙ go c p.1 (cases_Bool (has some c)))
  where
    go : (c : ℕ) → has_all (expand is) some ≡ true → (has some c ≡ true) ⊎ (has some c ≡ false) → (has (expand is) c && has some c) ≡ has some c
    go c q (inl t) = and_from (has (expand is) c) (has some c) (all_has (expand is) some c q t) t ∙ sym t
    go c q (inr f) = and_right (has (expand is) c) (has some c) f ∙ sym f

-- a list that is in order: it ascends, has few characters, and is the alphabet
pub record InOrder (characters some : List ℕ) : Type 0 where
  pub rises : rises_from 0 some ≡ true
  pub few : length some ≤ 2 ^ 16
  pub same : characters ≡ some

pub in_order : (own : List Interval) (o : Option (List ℕ)) (is_aligned : Bool) (w : ℕ) (own_values : Bool) (run : Interval) (ascending : Bool) (a : Alphabet) → alphabet_of own o is_aligned ≡ a → IsPrepared own o (alphabet_of own o is_aligned) w own_values run ascending →
    ascending ≡ true → (some : List ℕ) → o ≡ Some some → InOrder a.characters some
in_order own o is_aligned w own_values run ascending a e p t some i =
    let b : (rises_from 0 some && has_all (expand own) some) ≡ true = sym (ap (is_in_order (expand own)) i) ∙ sym p.ascending_is ∙ t in
    let r = restricted_listed own some p.ascends b in
    record {
      rises = (and_parts (rises_from 0 some) (has_all (expand own) some) b).0;
      few = subst (λ xs. length xs ≤ 2 ^ 16) r (length-restricted own some p.ascends);
      same = ap (λ (b : Alphabet). b.characters) (sym e) ∙ ap (restricted_to (expand own)) i ∙ r;
    }

-- ---- one character more is looked at

pub order_left : (own some : List ℕ) (k n : ℕ) → k < length some → (rises_from n (drop k some) && has_all own (drop k some)) ≡ ((leb n (get_or some k 0) && rises_from (get_or some k 0 + 1) (drop (k + 1) some)) && (has own (get_or some k 0) && has_all own (drop (k + 1) some)))
order_left own some k n h = at_drop_more (λ xs. rises_from n xs && has_all own xs) some k 0 h

pub order_goes_on : (b r c s : Bool) → b ≡ true → c ≡ true → ((b && r) && (c && s)) ≡ (r && s)
order_goes_on true r true s e f = refl
order_goes_on true r false s e f = absurd (cc)
order_goes_on false r c s e f = absurd (cc)

pub order_ends : (b r c s : Bool) → (b ≡ false) ⊎ (c ≡ false) → ((b && r) && (c && s)) ≡ false
order_ends b r c s (inl e) = ap (λ (d : Bool). (d && r) && (c && s)) e
order_ends b r c s (inr e) = ap (λ (d : Bool). (b && r) && (d && s)) e ∙ and_right (b && r) false refl

-- ---- searches

slice_get_or : (xs : List ℕ) (i : ℕ) → i < length xs → slice_get xs i ≡ Some (get_or xs i 0)
slice_get_or [] i h = absurd (omega arith)
slice_get_or (x ∷ xs) zero h = refl
slice_get_or (x ∷ xs) (suc i) h = slice_get_or xs i (omega arith)

up_from : (n : ℕ) (xs : List ℕ) (k : ℕ) → Up n xs → k < length xs → n ≤ get_or xs k 0
up_from n [] k u h = absurd (omega arith)
up_from n (x ∷ xs) zero u h = u.0
up_from n (x ∷ xs) (suc k) u h = let l : n ≤ x = u.0 in let r = up_from (suc x) xs k u.1 (omega arith) in omega arith

up_ordered : (n : ℕ) (xs : List ℕ) → Up n xs → (i j : ℕ) → i ≤ j → j < length xs → get_or xs i 0 ≤ get_or xs j 0
up_ordered n [] u i j l h = absurd (omega arith)
up_ordered n (x ∷ xs) u zero zero l h = omega arith
up_ordered n (x ∷ xs) u zero (suc j) l h = let r = up_from (suc x) xs j u.1 (omega arith) in omega arith
up_ordered n (x ∷ xs) u (suc i) zero l h = absurd (omega arith)
up_ordered n (x ∷ xs) u (suc i) (suc j) l h = up_ordered (suc x) xs u.1 i j (omega arith) (omega arith)

lacks : (xs : List ℕ) (c : ℕ) → ((k : ℕ) → k < length xs → get_or xs k 0 ≡ c → ⊥) → has xs c ≡ false
lacks [] c h = refl
lacks (x ∷ xs) c h = or_from (eqb x c) (has xs c) (ne_eqb x c (λ e. h 0 (omega arith) e)) (lacks xs c (λ k l. h (suc k) (omega arith)))

-- the order that a search asks for
pub rises_ordered : (xs : List ℕ) → rises_from 0 xs ≡ true → (i j : ℕ) → i ≤ j → j < length xs → get_or xs i 0 ≤ get_or xs j 0
rises_ordered xs e = up_ordered 0 xs (up-rises 0 xs e)

pub place_found : (xs : List ℕ) (c i : ℕ) → rises_from 0 xs ≡ true → i < length xs → get_or xs i 0 ≡ c → index_of c xs ≡ Some i
place_found xs c i e h s = (index_at 0 xs i c (up-rises 0 xs e) (slice_get_or xs i h ∙ ap (λ (n : ℕ). Some n) s)).0

pub place_lacking : (xs : List ℕ) (c i : ℕ) → ((k : ℕ) → k < i → get_or xs k 0 < c) → ((k : ℕ) → i ≤ k → k < length xs → c < get_or xs k 0) → index_of c xs ≡ None
place_lacking xs c i below above = index_of_none c xs (lacks xs c (λ k l e. elim (cases_lt k i) [
  | inl h ↦ let r = below k h in omega (arith, e)
  | inr h ↦ let r = above k h l in omega (arith, e)
]))

-- a character has a place exactly where it is permitted
pub placed : (xs : List ℕ) (c : ℕ) (o : Option ℕ) → o ≡ index_of c xs → is_some o ≡ has xs c
placed xs c o e = ap is_some e ∙ elim (cases_Bool (has xs c)) [
  | inl t ↦ let q = index_of_has xs c t in ap is_some q.1 ∙ sym t
  | inr f ↦ ap is_some (index_of_none c xs f) ∙ sym f
]

-- ---- the last of a list that ascends is the greatest

last_at : (n : ℕ) (xs : List ℕ) (i c : ℕ) → Up n xs → i + 1 ≡ length xs → slice_get xs i ≡ Some c → greatest xs ≡ c
last_at n [] i c u h e = absurd (omega (arith, h))
last_at n (x ∷ []) zero c u h e = let s : x ≡ c = cc in omega arith
last_at n (x ∷ []) (suc i) c u h e = absurd (omega (arith, h))
last_at n (x ∷ y ∷ ys) zero c u h e = absurd (omega (arith, h))
last_at n (x ∷ y ∷ ys) (suc i) c u h e =
    let g : greatest (y ∷ ys) ≡ c = last_at (suc x) (y ∷ ys) i c u.1 (omega (arith, h)) e in
    let l : x < y = u.1.0 in
    omega (arith, g, l)

pub last_greatest : (n : ℕ) (xs : List ℕ) (c : ℕ) → Up n xs → slice_get xs (length xs - 1) ≡ Some c → greatest xs ≡ c
last_greatest n [] c u e = absurd cc
last_greatest n (x ∷ xs) c u e = last_at n (x ∷ xs) (length (x ∷ xs) - 1) c u (omega arith) e

pub none_last : (xs : List ℕ) → slice_get xs (length xs - 1) ≡ None → xs ≡ []
none_last [] e = refl
none_last (x ∷ xs) e =
    let i = length (x ∷ xs) - 1 in
    let n : Some (get_or (x ∷ xs) i 0) ≡ None = sym (slice_get_or (x ∷ xs) i (omega arith)) ∙ e in
    absurd cc

-- The field that has so many before it stands at that place in ascending order of tags (X.691 21.1).
use Rattle.std.proofs.Common.{◌≡◌, ◌∙◌, refl, sym, ap, ap₂, arith, ℕ, zero, suc, ◌+◌, ◌<◌, ◌≤◌, ◌==◌, Bool, true, false, not, cond, nat_lt, ◌&&◌, ◌||◌, ◌⊎◌, inl, inr, List, [], ◌∷◌, length, map, find, slice_get, count_by, Option, Some}
use Rattle.std.proofs.lemmas.Bool.Decides.{nat_tests}
use Rattle.std.proofs.lemmas.List.{length-map}
use Rattle.std.proofs.lemmas.List.Sums.{sum_by-cons}
use Rattle.rasn_schema.specs.Fields.{Shape, shape_of, shapes_from}
use Rattle.rasn_schema.specs.Orders.{by_tags, how_many_less, insert_at}
use Rattle.rasn_schema.specs.Schemas.{Parts, no_parts, part, Tag, tag_less}
use Rattle.rasn_schema.specs.Structures.{tag_of}
use Rattle.rasn_schema.specs.declared.fields.Field.{Field}
use Rattle.per_ways.specs.Turns.{field_in_order, is_before}

abbrev pub tag_in : Field → Tag
tag_in f = tag_of f.tag

abbrev pub tags_in : List Field → List Tag
tags_in fs = map tag_in fs

-- how many of some fields stand before one
abbrev pub rank : Field → List Field → ℕ
rank f [] = 0
rank f (g ∷ gs) = cond (is_before g f) 1 0 + rank f gs

pub count_by-before : (f : Field) (gs : List Field) → count_by (λ g. is_before g f) gs ≡ rank f gs
count_by-before f [] = refl
count_by-before f (g ∷ gs) =
    sum_by-cons (λ h. cond (is_before h f) 1 0) g gs ∙ ap (λ n. cond (is_before g f) 1 0 + n) (count_by-before f gs)

abbrev pub In : Field → List Field → Type 0
In y [] = ⊥
In y (z ∷ zs) = (z ≡ y) ⊎ In y zs

-- each field has a lower index than those after it
abbrev pub Listed : List Field → Type 0
Listed [] = Unit {0}
Listed (x ∷ xs) = ((y : Field) → In y xs → x.index < y.index) × Listed xs

one_way : (t u : Tag) → tag_less t u ≡ true → tag_less u t ≡ false
one_way t u e = grind (arith, nat_tests)

chain : (t u v : Tag) → tag_less t u ≡ false → tag_less u v ≡ false → tag_less t v ≡ false
chain t u v e f = grind (arith, nat_tests)

-- whether a field stands before another, by how their tags and indexes compare
before_by : (x y : Field) (a b : Bool) → tag_less (tag_in x) (tag_in y) ≡ a → tag_less (tag_in y) (tag_in x) ≡ b → is_before x y ≡ (a || (not b && nat_lt x.index y.index))
before_by x y a b e f = rw (e, f) refl

lower : (i j : ℕ) → i < j → nat_lt i j ≡ true
lower i j h = grind (arith, nat_tests)

higher : (i j : ℕ) → i < j → nat_lt j i ≡ false
higher i j h = grind (arith, nat_tests)

-- of two fields the first one listed stands before the other unless the other has a lesser tag
first_before : (x y : Field) → x.index < y.index → is_before x y ≡ not (tag_less (tag_in y) (tag_in x))
first_before x y h = go (tag_less (tag_in x) (tag_in y)) (tag_less (tag_in y) (tag_in x)) refl refl
  where
    go : (a b : Bool) → tag_less (tag_in x) (tag_in y) ≡ a → tag_less (tag_in y) (tag_in x) ≡ b → is_before x y ≡ not b
    go true true e f = let g = one_way (tag_in x) (tag_in y) e in absurd cc
    go true false e f = before_by x y true false e f
    go false true e f = before_by x y false true e f
    go false false e f = before_by x y false false e f ∙ lower x.index y.index h

second_before : (x y : Field) → x.index < y.index → is_before y x ≡ tag_less (tag_in y) (tag_in x)
second_before x y h = go (tag_less (tag_in y) (tag_in x)) (tag_less (tag_in x) (tag_in y)) refl refl
  where
    go : (a b : Bool) → tag_less (tag_in y) (tag_in x) ≡ a → tag_less (tag_in x) (tag_in y) ≡ b → is_before y x ≡ a
    go true b e f = before_by y x true b e f
    go false true e f = before_by y x false true e f
    go false false e f = before_by y x false false e f ∙ higher x.index y.index h

-- what stands before a field has no greater tag
before_low : (z y : Field) → is_before z y ≡ true → tag_less (tag_in y) (tag_in z) ≡ false
before_low z y e = go (tag_less (tag_in z) (tag_in y)) (tag_less (tag_in y) (tag_in z)) refl refl
  where
    go : (a b : Bool) → tag_less (tag_in z) (tag_in y) ≡ a → tag_less (tag_in y) (tag_in z) ≡ b → tag_less (tag_in y) (tag_in z) ≡ false
    go true b f g = one_way (tag_in z) (tag_in y) f
    go false true f g = let h : is_before z y ≡ false = before_by z y false true f g in absurd cc
    go false false f g = g

-- where a tag is less than x's, what stands before its field has a tag that is less than x's
below_too : (x y z : Field) → tag_less (tag_in y) (tag_in x) ≡ true → is_before z y ≡ true → tag_less (tag_in z) (tag_in x) ≡ true
below_too x y z e f = go (tag_less (tag_in z) (tag_in x)) refl
  where
    go : (b : Bool) → tag_less (tag_in z) (tag_in x) ≡ b → tag_less (tag_in z) (tag_in x) ≡ true
    go true g = g
    go false g = let h = chain (tag_in y) (tag_in z) (tag_in x) (before_low z y f) g in absurd cc

-- where a tag isn't less than x's, each field with a lesser one than x's stands before its field
all_below : (x y z : Field) → tag_less (tag_in y) (tag_in x) ≡ false → tag_less (tag_in z) (tag_in x) ≡ true → is_before z y ≡ true
all_below x y z e f = go (tag_less (tag_in z) (tag_in y)) (tag_less (tag_in y) (tag_in z)) refl refl
  where
    go : (a b : Bool) → tag_less (tag_in z) (tag_in y) ≡ a → tag_less (tag_in y) (tag_in z) ≡ b → is_before z y ≡ true
    go true b g h = before_by z y true b g h
    go false b g h = let k = chain (tag_in z) (tag_in y) (tag_in x) g e in absurd cc

not_itself : (y : Field) → is_before y y ≡ false
not_itself y = go (tag_less (tag_in y) (tag_in y)) refl
  where
    go : (a : Bool) → tag_less (tag_in y) (tag_in y) ≡ a → is_before y y ≡ false
    go true e = let g = one_way (tag_in y) (tag_in y) e in absurd cc
    go false e = before_by y y false false e e ∙ (let n : nat_lt y.index y.index ≡ false = grind (arith, nat_tests) in n)

-- one of two counts goes on with a test, the other with a weaker one
count_on : (a b : Bool) (m n : ℕ) → (a ≡ true → b ≡ true) → m ≤ n → cond a 1 0 + m ≤ cond b 1 0 + n
count_on true true m n h l = omega (arith, l)
count_on true false m n h l = let e = h refl in absurd cc
count_on false true m n h l = omega (arith, l)
count_on false false m n h l = omega (arith, l)

few_below : (x y : Field) (zs : List Field) → tag_less (tag_in y) (tag_in x) ≡ true → rank y zs ≤ how_many_less (tag_in x) (tags_in zs)
few_below x y [] e = omega arith
few_below x y (z ∷ zs) e = count_on (is_before z y) (tag_less (tag_in z) (tag_in x)) _ _ (below_too x y z e) (few_below x y zs e)

fewer_below : (x y : Field) (zs : List Field) → In y zs → tag_less (tag_in y) (tag_in x) ≡ true → rank y zs < how_many_less (tag_in x) (tags_in zs)
fewer_below x y [] m e = absurd m
fewer_below x y (z ∷ zs) (inl h) e =
    let f : tag_less (tag_in z) (tag_in x) ≡ true = ap (λ v. tag_less (tag_in v) (tag_in x)) h ∙ e in
    let n : is_before z y ≡ false = ap (λ v. is_before v y) h ∙ not_itself y in
    let l = few_below x y zs e in
    rw (f, n) (omega (arith, l))
fewer_below x y (z ∷ zs) (inr m) e =
    let l = fewer_below x y zs m e in
    let k = count_on (is_before z y) (tag_less (tag_in z) (tag_in x)) (rank y zs + 1) (how_many_less (tag_in x) (tags_in zs)) (below_too x y z e) (omega (arith, l)) in
    omega (arith, k)

many_below : (x y : Field) (zs : List Field) → tag_less (tag_in y) (tag_in x) ≡ false → how_many_less (tag_in x) (tags_in zs) ≤ rank y zs
many_below x y [] e = omega arith
many_below x y (z ∷ zs) e = count_on (tag_less (tag_in z) (tag_in x)) (is_before z y) _ _ (all_below x y z e) (many_below x y zs e)

-- the first one listed has those before it whose tags are less
rank_first : (x : Field) (xs : List Field) → ((y : Field) → In y xs → x.index < y.index) → rank x xs ≡ how_many_less (tag_in x) (tags_in xs)
rank_first x [] h = refl
rank_first x (y ∷ ys) h =
    ap₂ (λ b n. cond b 1 0 + n) (second_before x y (h y (inl refl))) (rank_first x ys (λ z m. h z (inr m)))

-- tests that agree on a list find the same there
find_agrees : (p q : Field → Bool) (zs : List Field) → ((y : Field) → In y zs → p y ≡ q y) → find p zs ≡ find q zs
find_agrees p q [] h = refl
find_agrees p q (z ∷ zs) h =
    ap₂ (λ b o. cond b (Some z) o) (h z (inl refl)) (find_agrees p q zs (λ y m. h y (inr m)))

few_less : (t : Tag) (us : List Tag) → how_many_less t us ≤ length us
few_less t [] = omega arith
few_less t (u ∷ us) = go (tag_less u t) (few_less t us)
  where
    go : (b : Bool) → how_many_less t us ≤ length us → cond b 1 0 + how_many_less t us ≤ suc (length us)
    go true l = omega (arith, l)
    go false l = omega (arith, l)

length-insert_at : (n : ℕ) (x : Field) (ys : List Field) → length (insert_at n x ys) ≡ suc (length ys)
length-insert_at zero x ys = refl
length-insert_at (suc n) x [] = refl
length-insert_at (suc n) x (y ∷ ys) = ap suc (length-insert_at n x ys)

length-by_tags : (xs : List Field) → length (by_tags (tags_in xs) xs) ≡ length xs
length-by_tags [] = refl
length-by_tags (x ∷ xs) = length-insert_at (how_many_less (tag_in x) (tags_in xs)) x (by_tags (tags_in xs) xs) ∙ ap suc (length-by_tags xs)

at_insert : (n : ℕ) (x : Field) (ys : List Field) → n ≤ length ys → slice_get (insert_at n x ys) n ≡ Some x
at_insert zero x ys l = refl
at_insert (suc n) x [] l = absurd (omega (arith, l))
at_insert (suc n) x (y ∷ ys) l = at_insert n x ys (omega (arith, l))

before_insert : (n p : ℕ) (x : Field) (ys : List Field) → p < n → n ≤ length ys → slice_get (insert_at n x ys) p ≡ slice_get ys p
before_insert zero p x ys h l = absurd (omega (arith, h))
before_insert (suc n) p x [] h l = absurd (omega (arith, l))
before_insert (suc n) zero x (y ∷ ys) h l = refl
before_insert (suc n) (suc p) x (y ∷ ys) h l = before_insert n p x ys (omega (arith, h)) (omega (arith, l))

after_insert : (n p : ℕ) (x : Field) (ys : List Field) → n ≤ p → slice_get (insert_at n x ys) (suc p) ≡ slice_get ys p
after_insert zero p x ys h = refl
after_insert (suc n) p x [] h = refl
after_insert (suc n) zero x (y ∷ ys) h = absurd (omega (arith, h))
after_insert (suc n) (suc p) x (y ∷ ys) h = after_insert n p x ys (omega (arith, h))

-- how many stand before a field of a list, its first one counted apart
abbrev pub rank_after : Field → List Field → Field → ℕ
rank_after x xs y = cond (is_before x y) 1 0 + rank y xs

zero_on : (n : ℕ) → 0 + n ≡ n
zero_on n = omega arith

-- before the first one's place the others stand where they stand without it
below : (x : Field) (xs : List Field) (p : ℕ) → ((y : Field) → In y xs → x.index < y.index) → p < how_many_less (tag_in x) (tags_in xs) → (y : Field) → In y xs → (rank_after x xs y == p) ≡ (rank y xs == p)
below x xs p h l y m = go (tag_less (tag_in y) (tag_in x)) refl
  where
    go : (b : Bool) → tag_less (tag_in y) (tag_in x) ≡ b → (rank_after x xs y == p) ≡ (rank y xs == p)
    go true e = rw (first_before x y (h y m), e) (ap (λ n. n == p) (zero_on (rank y xs)))
    go false e =
        let k = many_below x y xs e in
        rw (first_before x y (h y m), e) (grind (arith, nat_tests, k, l))

same_next : (n p : ℕ) → (1 + n == suc p) ≡ (n == p)
same_next n p = grind (arith, nat_tests)

-- behind it they stand one place further
above : (x : Field) (xs : List Field) (p : ℕ) → ((y : Field) → In y xs → x.index < y.index) → how_many_less (tag_in x) (tags_in xs) ≤ p → (y : Field) → In y xs → (rank_after x xs y == suc p) ≡ (rank y xs == p)
above x xs p h l y m = go (tag_less (tag_in y) (tag_in x)) refl
  where
    go : (b : Bool) → tag_less (tag_in y) (tag_in x) ≡ b → (rank_after x xs y == suc p) ≡ (rank y xs == p)
    go true e =
        let k = fewer_below x y xs m e in
        rw (first_before x y (h y m), e) (grind (arith, nat_tests, k, l))
    go false e = rw (first_before x y (h y m), e) (same_next (rank y xs) p)

less_is : (m n : ℕ) → nat_lt m n ≡ true → m < n
less_is m n e = grind (arith, nat_tests)

neither_less : (m n : ℕ) → nat_lt m n ≡ false → nat_lt n m ≡ false → m ≡ n
neither_less m n e f = grind (arith, nat_tests)

equal_to_itself : (n : ℕ) → (n == n) ≡ true
equal_to_itself n = grind (arith, nat_tests)

lower_differs : (m n : ℕ) → m < n → (n == m) ≡ false
lower_differs m n h = grind (arith, nat_tests)

higher_differs : (m n : ℕ) → m < n → (m == n) ≡ false
higher_differs m n h = grind (arith, nat_tests)

-- the first one listed has so many before it, itself apart
head_rank : (x : Field) (xs : List Field) → ((y : Field) → In y xs → x.index < y.index) → rank x (x ∷ xs) ≡ how_many_less (tag_in x) (tags_in xs)
head_rank x xs h = ap (λ b. cond b 1 0 + rank x xs) (not_itself x) ∙ zero_on (rank x xs) ∙ rank_first x xs h

-- there is room for the first one
room : (x : Field) (xs : List Field) → how_many_less (tag_in x) (tags_in xs) ≤ length (by_tags (tags_in xs) xs)
room x xs =
    let l = few_less (tag_in x) (tags_in xs) in
    let m : length (tags_in xs) ≡ length xs = length-map xs tag_in in
    let n = length-by_tags xs in
    omega (arith, l, m, n)

-- the field that has so many before it, of fields as a type lists them
pub find_rank : (fs : List Field) (p : ℕ) → Listed fs → find (λ f. rank f fs == p) fs ≡ slice_get (by_tags (tags_in fs) fs) p
find_rank [] p l = refl
find_rank (x ∷ xs) p l = go p (nat_lt p k) (nat_lt k p) refl refl (find_rank xs)
  where
    k : ℕ
    k = how_many_less (tag_in x) (tags_in xs)

    ordered : List Field
    ordered = by_tags (tags_in xs) xs

    rest : ℕ → Option Field
    rest q = find (λ y. rank_after x xs y == q) xs

    head : (q : ℕ) (b : Bool) → (k == q) ≡ b → cond (rank x (x ∷ xs) == q) (Some x) (rest q) ≡ cond b (Some x) (rest q)
    head q b e = ap (λ n. cond (n == q) (Some x) (rest q)) (head_rank x xs l.0) ∙ ap (λ c. cond c (Some x) (rest q)) e

    go : (q : ℕ) (a b : Bool) → nat_lt q k ≡ a → nat_lt k q ≡ b → ((r : ℕ) → Listed xs → find (λ f. rank f xs == r) xs ≡ slice_get ordered r) → cond (rank x (x ∷ xs) == q) (Some x) (rest q) ≡ slice_get (insert_at k x ordered) q
    go q true b e f ih =
        let h = less_is q k e in
        head q false (lower_differs q k h)
        ∙ find_agrees (λ y. rank_after x xs y == q) (λ y. rank y xs == q) xs (below x xs q l.0 h)
        ∙ ih q l.1
        ∙ sym (before_insert k q x ordered h (room x xs))
    go zero false true e f ih = let h = less_is k 0 f in absurd (omega (arith, h))
    go (suc q) false true e f ih =
        let h = less_is k (suc q) f in
        let up : k ≤ q = omega (arith, h) in
        head (suc q) false (higher_differs k (suc q) h)
        ∙ find_agrees (λ y. rank_after x xs y == suc q) (λ y. rank y xs == q) xs (above x xs q l.0 up)
        ∙ ih q l.1
        ∙ sym (after_insert k q x ordered up)
    go q false false e f ih =
        let same = neither_less q k e f in
        head q true (ap (λ n. k == n) same ∙ equal_to_itself k)
        ∙ sym (ap (slice_get (insert_at k x ordered)) same ∙ at_insert k x ordered (room x xs))

heads : (x y : Shape) (xs ys : List Shape) → x ∷ xs ≡ y ∷ ys → x ≡ y
heads x y xs ys e = cc

tails : (x y : Shape) (xs ys : List Shape) → x ∷ xs ≡ y ∷ ys → xs ≡ ys
tails x y xs ys e = cc

-- the fields of components are at their indexes
indexed : (i : ℕ) (fs : List Field) (ps : Parts) → map shape_of fs ≡ shapes_from i ps → Listed fs × ((y : Field) → In y fs → i ≤ y.index)
indexed i [] ps e = (tt, λ y m. absurd m)
indexed i (x ∷ xs) no_parts e = absurd cc
indexed i (x ∷ xs) (part t p s ps) e =
    let inner = indexed (suc i) xs ps (tails _ _ _ _ e) in
    let here : x.index ≡ i = ap (λ (h : Shape). h.index) (heads _ _ _ _ e) in
    (((λ y m. let l = inner.1 y m in omega (arith, l, here)), inner.0), go here inner.1)
  where
    go : x.index ≡ i → ((y : Field) → In y xs → suc i ≤ y.index) → (y : Field) → In y (x ∷ xs) → i ≤ y.index
    go h l y (inl m) = let n : x.index ≡ y.index = ap (λ (f : Field). f.index) m in omega (arith, h, n)
    go h l y (inr m) = let n = l y m in omega (arith, n)

-- X.691 21.1: the field at a place in ascending order of tags, of the fields of components
pub field_at_place : (fs : List Field) (place : ℕ) (ps : Parts) → map shape_of fs ≡ shapes_from 0 ps → field_in_order fs place ≡ slice_get (by_tags (tags_in fs) fs) place
field_at_place fs place ps e =
    find_agrees (λ f. count_by (λ g. is_before g f) fs == place) (λ f. rank f fs == place) fs (λ f m. ap (λ n. n == place) (count_by-before f fs))
    ∙ find_rank fs place (indexed 0 fs ps e).0

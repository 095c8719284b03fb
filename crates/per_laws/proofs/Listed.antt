-- The order of a SET's components is one order, however they are listed.
use Rattle.std.proofs.Common.{◌≡◌, refl, sym, ap, ◌∙◌, ap₂, ℕ, zero, suc, ◌+◌, ◌≤◌, Bool, true, false, not, cond, ◌&&◌, ◌||◌, List, [], ◌∷◌, ◌++◌, length, inl, inr, ◌⊎◌, Option, arith}
use Rattle.std.proofs.lemmas.Bool.Decides.{nat_tests}
use Rattle.rasn_types.specs.Values.{Value, Slots, fields, slots}
use Rattle.rasn_types.specs.Variants.{Variant}
use Rattle.rasn_schema.specs.Depth.{any_of}
use Rattle.rasn_schema.specs.Lawful.{IsLawful, leaves, leaves_of, same_tag, is_new, are_distinct, no_groups, tags_below}
use Rattle.rasn_schema.specs.Orders.{insert_at, how_many_less, by_tags}
use Rattle.rasn_schema.specs.Schemas.{Tag, TagTree, TagTrees, leaf, one_of, no_trees, tree, tag_less, smallest, least_of, tags, required, optional, group, default, by_tag, Schema, Parts, no_parts, part}
use Rattle.per_core.specs.Canon.{canon, members, record_of}
use Rattle.per_core.proofs.LengthForms.{and_left, and_right}
use Rattle.per_core.proofs.Readings.{length-by_tags}
use Rattle.per_laws.specs.Listings.{Relisted, nothing_listed, kept, exchanged, in_turn}
use Rattle.per_laws.proofs.Tagged.{one_tag, apart, found_left, found_right, distinct_left, distinct_right}

-- tags, and what hangs on each, in another order
data Shuffled {A : Type 0} : List Tag → List A → List Tag → List A → Type 0 where
  no_things : Shuffled [] [] [] []
  one_first : {t : Tag} {x : A} {ts us : List Tag} {xs ys : List A} → Shuffled ts xs us ys → Shuffled (t ∷ ts) (x ∷ xs) (t ∷ us) (x ∷ ys)
  two_first : {t u : Tag} {x y : A} {ts us : List Tag} {xs ys : List A} → Shuffled ts xs us ys → Shuffled (t ∷ u ∷ ts) (x ∷ y ∷ xs) (u ∷ t ∷ us) (y ∷ x ∷ ys)
  and_then : {ts us vs : List Tag} {xs ys zs : List A} → Shuffled ts xs us ys → Shuffled us ys vs zs → Shuffled ts xs vs zs

-- the order of tags
less_through : (t u v : Tag) → tag_less v t ≡ true → tag_less t u ≡ true → tag_less v u ≡ true
less_through t u v e f = grind (arith, nat_tests)

less_one_way : (t u : Tag) → tag_less t u ≡ true → tag_less u t ≡ false
less_one_way t u e = grind (arith, nat_tests)

one_is_less : (t u : Tag) → same_tag t u ≡ false → tag_less t u ≡ false → tag_less u t ≡ true
one_is_less t u e f = grind (arith, nat_tests)

same_both_ways : (t u : Tag) → same_tag t u ≡ same_tag u t
same_both_ways t u = grind (arith, nat_tests)

same_as_itself : (t : Tag) → same_tag t t ≡ true
same_as_itself t = grind (arith, nat_tests)

-- how many are less
few_less : (t : Tag) (ts : List Tag) → how_many_less t ts ≤ length ts
few_less t [] = omega arith
few_less t (u ∷ us) = go (tag_less u t) (few_less t us)
  where
    go : (b : Bool) → how_many_less t us ≤ length us → cond b 1 0 + how_many_less t us ≤ suc (length us)
    go true h = omega arith
    go false h = omega arith

fewer_less : (t u : Tag) → tag_less t u ≡ true → (ts : List Tag) → how_many_less t ts ≤ how_many_less u ts
fewer_less t u e [] = omega arith
fewer_less t u e (v ∷ vs) = go (tag_less v t) (tag_less v u) refl refl (fewer_less t u e vs)
  where
    go : (a b : Bool) → tag_less v t ≡ a → tag_less v u ≡ b → how_many_less t vs ≤ how_many_less u vs → cond a 1 0 + how_many_less t vs ≤ cond b 1 0 + how_many_less u vs
    go true true p q h = omega arith
    go false true p q h = omega arith
    go false false p q h = omega arith
    go true false p q h = let r = less_through t u v p e in absurd (cc)

less_same : {A : Type 0} → {ts us : List Tag} {xs ys : List A} → Shuffled ts xs us ys → (t : Tag) → how_many_less t ts ≡ how_many_less t us
less_same no_things t = refl
less_same (one_first {t = u} q) t = ap (λ (n : ℕ). cond (tag_less u t) 1 0 + n) (less_same q t)
less_same (two_first {t = u} {u = v} q) t = let h = less_same q t in omega arith
less_same (and_then q r) t = less_same q t ∙ less_same r t

as_many : {A : Type 0} → {ts us : List Tag} {xs ys : List A} → Shuffled ts xs us ys → (length xs ≡ length ts) × (length ys ≡ length us)
as_many no_things = (refl, refl)
as_many (one_first q) = let h = as_many q in (ap suc h.0, ap suc h.1)
as_many (two_first q) = let h = as_many q in (ap (λ (n : ℕ). suc (suc n)) h.0, ap (λ (n : ℕ). suc (suc n)) h.1)
as_many (and_then q r) = ((as_many q).0, (as_many r).1)

-- distinct tags are so in another order
two_tests : (a b c d : Bool) → c ≡ d → (a && (b && c)) ≡ (b && (a && d))
two_tests true true c d e = e
two_tests true false c d e = refl
two_tests false true c d e = refl
two_tests false false c d e = refl

new_same : {A : Type 0} → {ts us : List Tag} {xs ys : List A} → Shuffled ts xs us ys → (t : Tag) → is_new t ts ≡ is_new t us
new_same no_things t = refl
new_same (one_first {t = u} q) t = ap (λ b. not (same_tag t u) && b) (new_same q t)
new_same (two_first {t = u} {u = v} {ts = ts} {us = us} q) t = two_tests (not (same_tag t u)) (not (same_tag t v)) (is_new t ts) (is_new t us) (new_same q t)
new_same (and_then q r) t = new_same q t ∙ new_same r t

four_tests : (a b c d : Bool) → ((a && b) && (c && d)) ≡ true → ((a && c) && (b && d)) ≡ true
four_tests true true true true e = refl
four_tests true true true false e = e
four_tests true true false d e = e
four_tests true false c d e = absurd (cc)
four_tests false b c d e = absurd (cc)

still_distinct : {A : Type 0} → {ts us : List Tag} {xs ys : List A} → Shuffled ts xs us ys → are_distinct ts ≡ true → are_distinct us ≡ true
still_distinct no_things d = refl
still_distinct (one_first {t = t} {ts = ts} q) d = ap₂ (λ a b. a && b) (sym (new_same q t) ∙ and_left (is_new t ts) (are_distinct ts) d) (still_distinct q (and_right (is_new t ts) (are_distinct ts) d))
still_distinct (two_first {t = t} {u = u} {ts = ts} {us = us} q) d =
    let h = four_tests (not (same_tag t u)) (is_new t ts) (is_new u ts) (are_distinct ts) d in
    let k : are_distinct ts ≡ true = and_right (is_new t ts) (are_distinct ts) (and_right (not (same_tag t u) && is_new u ts) (is_new t ts && are_distinct ts) h) in
    ap₂ (λ a b. a && b) (ap₂ (λ a b. not a && b) (same_both_ways u t) (sym (new_same q u))) (ap₂ (λ a b. a && b) (sym (new_same q t)) (still_distinct q k ∙ sym k)) ∙ h
still_distinct (and_then q r) d = still_distinct r (still_distinct q d)

-- two insertions
past : {A : Type 0} → (m n : ℕ) (x y : A) (zs : List A) → m ≤ n → n ≤ length zs → insert_at m x (insert_at n y zs) ≡ insert_at (suc n) y (insert_at m x zs)
past zero n x y zs h k = refl
past (suc m) zero x y zs h k = absurd (omega arith)
past (suc m) (suc n) x y [] h k = absurd (omega arith)
past (suc m) (suc n) x y (z ∷ zs) h k = ap (λ l. z ∷ l) (past m n x y zs (omega arith) (omega arith))

in_front : {A : Type 0} → (t u : Tag) (x y : A) (ts : List Tag) (xs : List A) → length xs ≡ length ts → tag_less t u ≡ true → by_tags (t ∷ u ∷ ts) (x ∷ y ∷ xs) ≡ by_tags (u ∷ t ∷ ts) (y ∷ x ∷ xs)
in_front t u x y ts xs l e =
    let h : cond (tag_less u t) 1 0 + how_many_less t ts ≡ how_many_less t ts = ap (λ b. cond b 1 0 + how_many_less t ts) (less_one_way t u e) ∙ omega arith in
    let k : cond (tag_less t u) 1 0 + how_many_less u ts ≡ suc (how_many_less u ts) = ap (λ b. cond b 1 0 + how_many_less u ts) e ∙ omega arith in
    let f : how_many_less u ts ≤ length (by_tags ts xs) = let q = few_less u ts in let p = length-by_tags ts xs in omega arith in
    ap (λ (n : ℕ). insert_at n x (insert_at (how_many_less u ts) y (by_tags ts xs))) h
    ∙ past (how_many_less t ts) (how_many_less u ts) x y (by_tags ts xs) (fewer_less t u e ts) f
    ∙ sym (ap (λ (n : ℕ). insert_at n y (insert_at (how_many_less t ts) x (by_tags ts xs))) k)

turned : {A : Type 0} → (t u : Tag) (x y : A) (ts : List Tag) (xs : List A) → length xs ≡ length ts → same_tag t u ≡ false → by_tags (t ∷ u ∷ ts) (x ∷ y ∷ xs) ≡ by_tags (u ∷ t ∷ ts) (y ∷ x ∷ xs)
turned t u x y ts xs l e = go (tag_less t u) refl
  where
    go : (b : Bool) → tag_less t u ≡ b → by_tags (t ∷ u ∷ ts) (x ∷ y ∷ xs) ≡ by_tags (u ∷ t ∷ ts) (y ∷ x ∷ xs)
    go true f = in_front t u x y ts xs l f
    go false f = sym (in_front u t y x ts xs l (one_is_less t u e f))

not_true : (b : Bool) → not b ≡ true → b ≡ false
not_true false e = refl
not_true true e = absurd (cc)

same_order : {A : Type 0} → {ts us : List Tag} {xs ys : List A} → Shuffled ts xs us ys → are_distinct ts ≡ true → by_tags ts xs ≡ by_tags us ys
same_order no_things d = refl
same_order (one_first {t = t} {x = x} {ts = ts} q) d = ap₂ (λ (n : ℕ) l. insert_at n x l) (less_same q t) (same_order q (and_right (is_new t ts) (are_distinct ts) d))
same_order (two_first {t = t} {u = u} {x = x} {y = y} {ts = ts} {xs = xs} q) d =
    let n : same_tag t u ≡ false = not_true (same_tag t u) (and_left (not (same_tag t u)) (is_new t ts) (and_left (not (same_tag t u) && is_new t ts) (is_new u ts && are_distinct ts) d)) in
    let k : are_distinct ts ≡ true = and_right (is_new u ts) (are_distinct ts) (and_right (not (same_tag t u) && is_new t ts) (is_new u ts && are_distinct ts) d) in
    turned t u x y ts xs (as_many q).0 n
    ∙ ap₂ (λ (m : ℕ) l. insert_at m y l) (ap (λ (m : ℕ). cond (tag_less t u) 1 0 + m) (less_same q u)) (ap₂ (λ (m : ℕ) l. insert_at m x l) (less_same q t) (same_order q k))
same_order (and_then q r) d = same_order q d ∙ same_order r (still_distinct q d)

-- the smallest tag is one of a tree's
one_found : (t u : Tag) (us : List Tag) → t ≡ u → any_of (same_tag t) (u ∷ us) ≡ true
one_found t u us e = ap (λ b. b || any_of (same_tag t) us) (ap (same_tag t) (sym e) ∙ same_as_itself t)

-- the lesser of two tags is one of them
least_two : (b : Bool) (t u v : Tag) (l : TagTree) (ls : TagTrees) → ((u ≡ t) ⊎ (any_of (same_tag u) (leaves_of ls) ≡ true)) → any_of (same_tag v) (leaves l) ≡ true →
    (cond b u v ≡ t) ⊎ (any_of (same_tag (cond b u v)) (leaves l ++ leaves_of ls) ≡ true)
least_two true t u v l ls (inl e) h = inl e
least_two true t u v l ls (inr e) h = inr (found_right (same_tag u) (leaves l) (leaves_of ls) e)
least_two false t u v l ls i h = inr (found_left (same_tag v) (leaves l) (leaves_of ls) h)

mutual
  unfolding leaves smallest

  smallest_in : (l : TagTree) → any_of (same_tag (smallest l)) (leaves l) ≡ true
  smallest_in (leaf t) = one_found t t [] refl
  smallest_in (one_of l ls) = elim (least_in (smallest l) ls) [
    | inl e ↦ found_left (same_tag (least_of (smallest l) ls)) (leaves l) (leaves_of ls) (ap (λ t. any_of (same_tag t) (leaves l)) e ∙ smallest_in l)
    | inr e ↦ found_right (same_tag (least_of (smallest l) ls)) (leaves l) (leaves_of ls) e
  ]

  least_in : (t : Tag) (ls : TagTrees) → (least_of t ls ≡ t) ⊎ (any_of (same_tag (least_of t ls)) (leaves_of ls) ≡ true)
  least_in t no_trees = inl refl
  least_in t (tree l ls) = least_two (tag_less (least_of t ls) (smallest l)) t (least_of t ls) (smallest l) l ls (least_in t ls) (smallest_in l)

-- the smallest tags of a record's root parts differ where all its tags do
any_new : (t : Tag) (us : List Tag) → any_of (same_tag t) us ≡ false → is_new t us ≡ true
any_new t [] e = refl
any_new t (u ∷ us) e = go (same_tag t u) (any_of (same_tag t) us) e (any_new t us)
  where
    go : (a b : Bool) → (a || b) ≡ false → (b ≡ false → is_new t us ≡ true) → (not a && is_new t us) ≡ true
    go false b e h = h e
    go true b e h = absurd (cc)

head_or_tail : (l : TagTree) (ps : Parts) (t : Tag) → any_of (same_tag t) (smallest l ∷ tags ps) ≡ true → (any_of (same_tag t) (tags ps) ≡ true → any_of (same_tag t) (tags_below ps) ≡ true) →
    any_of (same_tag t) (leaves l ++ tags_below ps) ≡ true
head_or_tail l ps t e h = go (same_tag t (smallest l)) refl
  where
    go : (b : Bool) → same_tag t (smallest l) ≡ b → any_of (same_tag t) (leaves l ++ tags_below ps) ≡ true
    go true f = found_left (same_tag t) (leaves l) (tags_below ps) (ap (λ x. any_of (same_tag x) (leaves l)) (one_tag t (smallest l) f) ∙ smallest_in l)
    go false f = found_right (same_tag t) (leaves l) (tags_below ps) (h (sym (ap (λ b. b || any_of (same_tag t) (tags ps)) f) ∙ e))

tag_below : (ps : Parts) → no_groups ps ≡ true → (t : Tag) → any_of (same_tag t) (tags ps) ≡ true → any_of (same_tag t) (tags_below ps) ≡ true
tag_below no_parts g t e = e
tag_below (part l required s ps) g t e = head_or_tail l ps t e (tag_below ps g t)
tag_below (part l optional s ps) g t e = head_or_tail l ps t e (tag_below ps g t)
tag_below (part l (default d) s ps) g t e = head_or_tail l ps t e (tag_below ps g t)
tag_below (part l group s ps) g t e = absurd (cc)

first_new : (l : TagTree) (ps : Parts) → no_groups ps ≡ true → are_distinct (leaves l ++ tags_below ps) ≡ true → is_new (smallest l) (tags ps) ≡ true
first_new l ps g d = go (any_of (same_tag (smallest l)) (tags ps)) refl
  where
    go : (b : Bool) → any_of (same_tag (smallest l)) (tags ps) ≡ b → is_new (smallest l) (tags ps) ≡ true
    go false e = any_new (smallest l) (tags ps) e
    go true e = absurd (apart (leaves l) (tags_below ps) (smallest l) d (smallest_in l) (tag_below ps g (smallest l) e))

smallest_differ : (ps : Parts) → no_groups ps ≡ true → are_distinct (tags_below ps) ≡ true → are_distinct (tags ps) ≡ true
smallest_differ no_parts g d = refl
smallest_differ (part l required s ps) g d = ap₂ (λ a b. a && b) (first_new l ps g d) (smallest_differ ps g (distinct_right (leaves l) (tags_below ps) d))
smallest_differ (part l optional s ps) g d = ap₂ (λ a b. a && b) (first_new l ps g d) (smallest_differ ps g (distinct_right (leaves l) (tags_below ps) d))
smallest_differ (part l (default x) s ps) g d = ap₂ (λ a b. a && b) (first_new l ps g d) (smallest_differ ps g (distinct_right (leaves l) (tags_below ps) d))
smallest_differ (part l group s ps) g d = absurd (cc)

-- components in another order
slots_shuffled : {ps qs : Parts} {xs ys : List (Option Value)} → Relisted ps xs qs ys → Shuffled (tags ps) xs (tags qs) ys
slots_shuffled nothing_listed = no_things
slots_shuffled (kept q) = one_first (slots_shuffled q)
slots_shuffled (exchanged q) = two_first (slots_shuffled q)
slots_shuffled (in_turn q r) = and_then (slots_shuffled q) (slots_shuffled r)

members_shuffled : (a : Variant) {ps qs : Parts} {xs ys : List (Option Value)} → Relisted ps xs qs ys → Shuffled (tags ps) (members a ps) (tags qs) (members a qs)
unfolding canon
members_shuffled a nothing_listed = no_things
members_shuffled a (kept q) = one_first (members_shuffled a q)
members_shuffled a (exchanged q) = two_first (members_shuffled a q)
members_shuffled a (in_turn q r) = and_then (members_shuffled a q) (members_shuffled a r)

pub same_record : (a : Variant) (ps qs adds : Parts) (ext : Bool) → IsLawful (Schema.sequence by_tag ps ext adds) → (r r' x : Slots) (p : ℕ) → Relisted ps (slots r) qs (slots r') →
    canon a (Schema.sequence by_tag ps ext adds) (fields r x) p ≡ canon a (Schema.sequence by_tag qs ext adds) (fields r' x) p
unfolding IsLawful canon
same_record a ps qs adds ext l r r' x p q =
    let d = smallest_differ ps l.0.root_groups (distinct_left (tags_below ps) (tags_below adds) l.0.lawful_tags) in
    ap₂ (λ ms ss. record_of a ext ms (members a adds) ss (slots x) p) (same_order (members_shuffled a q) d) (same_order (slots_shuffled q) d)

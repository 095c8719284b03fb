-- The order of a SET's parts: what hangs on them is put in order as they are, and back.
use Rattle.std.proofs.Common.{◌≡◌, refl, ap, ◌∙◌, ℕ, zero, suc, Bool, List, [], ◌∷◌}
use Rattle.rasn_types.specs.Variants.{Variant}
use Rattle.rasn_schema.specs.Orders.{insert_at, how_many_less, by_tags, put_part, canonised}
use Rattle.rasn_schema.specs.Schemas.{Tag, TagTree, Presence, Schema, Parts, no_parts, part, smallest, tags}
use Rattle.per_core.specs.Basic.{basic_in, rules_in}
use Rattle.per_core.specs.Canon.{canon, members}
use Rattle.per_core.specs.Spellings.{Settings}
use Rattle.per_core.specs.ListedParts.{put_second, brought_forward, after_first, as_listed}

-- how a part is written, where it is put
members_put : (a : Variant) (n : ℕ) (t : TagTree) (p : Presence) (s : Schema) (ps : Parts)
    → members a (put_part n t p s ps) ≡ insert_at n (record { presence = p; writes = canon a s }) (members a ps)
unfolding members
members_put a zero t p s ps = refl
members_put a (suc n) t p s no_parts = refl
members_put a (suc n) t p s (part u q r ps) = ap (λ ms. record { presence = q; writes = canon a r } ∷ ms) (members_put a n t p s ps)

-- parts in order are written as theirs in order
pub members_ordered : (a : Variant) (ps : Parts) → members a (canonised ps) ≡ by_tags (tags ps) (members a ps)
unfolding members
members_ordered a no_parts = refl
members_ordered a (part t p s ps) =
    let n = how_many_less (smallest t) (tags ps) in
    members_put a n t p s (canonised ps) ∙ ap (insert_at n (record { presence = p; writes = canon a s })) (members_ordered a ps)

-- how a part is spelled, where it is put
rules_put : (a : Settings) (u : Bool) (n : ℕ) (t : TagTree) (p : Presence) (s : Schema) (ps : Parts)
    → rules_in a u (put_part n t p s ps) ≡ insert_at n (record { presence = p; spells = basic_in a u s }) (rules_in a u ps)
unfolding rules_in
rules_put a u zero t p s ps = refl
rules_put a u (suc n) t p s no_parts = refl
rules_put a u (suc n) t p s (part v q r ps) = ap (λ rs. record { presence = q; spells = basic_in a u r } ∷ rs) (rules_put a u n t p s ps)

-- parts in order are spelled as theirs in order
pub rules_ordered : (a : Settings) (u : Bool) (ps : Parts) → rules_in a u (canonised ps) ≡ by_tags (tags ps) (rules_in a u ps)
unfolding rules_in
rules_ordered a u no_parts = refl
rules_ordered a u (part t p s ps) =
    let n = how_many_less (smallest t) (tags ps) in
    rules_put a u n t p s (canonised ps) ∙ ap (insert_at n (record { presence = p; spells = basic_in a u s })) (rules_ordered a u ps)

-- the tag of a part, where it is put
tags_put : (n : ℕ) (t : TagTree) (p : Presence) (s : Schema) (ps : Parts) → tags (put_part n t p s ps) ≡ insert_at n (smallest t) (tags ps)
tags_put zero t p s ps = refl
tags_put (suc n) t p s no_parts = refl
tags_put (suc n) t p s (part u q r ps) = ap (λ ts. smallest u ∷ ts) (tags_put n t p s ps)

-- parts in order have their tags in order
pub tags_ordered : (ps : Parts) → tags (canonised ps) ≡ by_tags (tags ps) (tags ps)
tags_ordered no_parts = refl
tags_ordered (part t p s ps) =
    let n = how_many_less (smallest t) (tags ps) in
    tags_put n t p s (canonised ps) ∙ ap (insert_at n (smallest t)) (tags_ordered ps)

-- what is inserted is brought forward
forward_nothing {ℓ} : {A : Type ℓ} (n : ℕ) → brought_forward {A = A} n [] ≡ []
forward_nothing zero = refl
forward_nothing (suc n) = refl

forward_inserted {ℓ} : {A : Type ℓ} (n : ℕ) (x : A) (xs : List A) → brought_forward n (insert_at n x xs) ≡ x ∷ xs
forward_inserted zero x xs = refl
forward_inserted (suc n) x [] = ap (put_second x) (forward_nothing n)
forward_inserted (suc n) x (y ∷ ys) = ap (put_second y) (forward_inserted n x ys)

-- and back
put_back {ℓ} : {A : Type ℓ} → ℕ → List A → List A
put_back n [] = []
put_back n (x ∷ xs) = insert_at n x xs

inserted_second {ℓ} : {A : Type ℓ} (n : ℕ) (y : A) (xs : List A) → put_back (suc n) (put_second y xs) ≡ y ∷ put_back n xs
unfolding put_back
inserted_second n y [] = refl
inserted_second n y (x ∷ xs) = refl

inserted_forward {ℓ} : {A : Type ℓ} (n : ℕ) (xs : List A) → put_back n (brought_forward n xs) ≡ xs
unfolding put_back
inserted_forward zero [] = refl
inserted_forward zero (x ∷ xs) = refl
inserted_forward (suc n) [] = refl
inserted_forward (suc n) (x ∷ xs) = inserted_second n x (brought_forward n xs) ∙ ap (λ ys. x ∷ ys) (inserted_forward n xs)

-- what is in order, as it was listed
pub listed_again {ℓ} : {A : Type ℓ} (ts : List Tag) (xs : List A) → as_listed ts (by_tags ts xs) ≡ xs
listed_again [] [] = refl
listed_again [] (x ∷ xs) = refl
listed_again (t ∷ ts) [] = ap (after_first (as_listed ts)) (forward_nothing (how_many_less t ts))
listed_again (t ∷ ts) (x ∷ xs) =
    ap (after_first (as_listed ts)) (forward_inserted (how_many_less t ts) x (by_tags ts xs)) ∙ ap (λ ys. x ∷ ys) (listed_again ts xs)

-- what is listed, in its order again
pub ordered_again {ℓ} : {A : Type ℓ} (ts : List Tag) (xs : List A) → by_tags ts (as_listed ts xs) ≡ xs
unfolding put_back
ordered_again [] [] = refl
ordered_again [] (x ∷ xs) = refl
ordered_again {A} (t ∷ ts) xs = go (ordered_again ts) (brought_forward (how_many_less t ts) xs) ∙ inserted_forward (how_many_less t ts) xs
  where
    go : ((ys : List A) → by_tags ts (as_listed ts ys) ≡ ys) → (ys : List A)
        → by_tags (t ∷ ts) (after_first (as_listed ts) ys) ≡ put_back (how_many_less t ts) ys
    go again [] = refl
    go again (y ∷ ys) = ap (insert_at (how_many_less t ts) y) (again ys)

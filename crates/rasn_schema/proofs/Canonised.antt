-- The components of a SET in the order of their tags: what hangs on them is put in order as they are.
use Rattle.std.proofs.Common.{◌≡◌, refl, sym, ap, ◌∙◌, ℕ, zero, suc, ◌+◌, List, [], ◌∷◌, length, Option, Some, None, arith}
use Rattle.rasn_types.specs.Values.{Value}
use Rattle.rasn_schema.specs.Orders.{put_part, canonised, canonised_slots, insert_at, how_many_less, by_tags}
use Rattle.rasn_schema.specs.Structures.{has_bit, presence_bits}
use Rattle.rasn_schema.specs.Normal.{each_slot, normal, normals, settle}
use Rattle.rasn_schema.specs.Schemas.{Tag, TagTree, Presence, Schema, Parts, no_parts, part, smallest, tags, count}

-- what is inserted makes a list longer by one
length-insert : {A : Type 0} (n : ℕ) (x : A) (xs : List A) → length (insert_at n x xs) ≡ suc (length xs)
length-insert zero x xs = refl
length-insert (suc n) x [] = refl
length-insert (suc n) x (y ∷ ys) = ap suc (length-insert n x ys)

-- as many are in order as are listed
pub length-by_tags : {A : Type 0} (ts : List Tag) (xs : List A) → length (by_tags ts xs) ≡ length xs
length-by_tags ts [] = refl
length-by_tags [] (x ∷ xs) = refl
length-by_tags (t ∷ ts) (x ∷ xs) = length-insert (how_many_less t ts) x (by_tags ts xs) ∙ ap suc (length-by_tags ts xs)

-- a part counts, wherever it is put
count_put : (n : ℕ) (t : TagTree) (p : Presence) (s : Schema) (ps : Parts) → count (put_part n t p s ps) ≡ 1 + count ps
count_put zero t p s ps = refl
count_put (suc n) t p s no_parts = refl
count_put (suc n) t p s (part u q r ps) = ap (λ (k : ℕ). 1 + k) (count_put n t p s ps)

-- parts in order are as many
pub count_ordered : (ps : Parts) → count (canonised ps) ≡ count ps
count_ordered no_parts = refl
count_ordered (part t p s ps) = count_put (how_many_less (smallest t) (tags ps)) t p s (canonised ps) ∙ ap (λ (k : ℕ). 1 + k) (count_ordered ps)

-- a part has its presence bit, wherever it is put
bits_put : (n : ℕ) (t : TagTree) (p : Presence) (s : Schema) (ps : Parts) → presence_bits (put_part n t p s ps) ≡ has_bit p + presence_bits ps
bits_put zero t p s ps = refl
bits_put (suc n) t p s no_parts = refl
bits_put (suc n) t p s (part u q r ps) = let h = bits_put n t p s ps in omega arith

-- parts in order have as many presence bits
pub bits_ordered : (ps : Parts) → presence_bits (canonised ps) ≡ presence_bits ps
bits_ordered no_parts = refl
bits_ordered (part t p s ps) =
    bits_put (how_many_less (smallest t) (tags ps)) t p s (canonised ps) ∙ ap (λ (k : ℕ). has_bit p + k) (bits_ordered ps)

-- what becomes of a part
slot_becomes : (Value → Option Value) → Option Value → Option Value
slot_becomes f None = None
slot_becomes f (Some v) = f v

each_becomes : (f : Value → Option Value) (g : List (Option Value) → List (Option Value)) (x : Option Value) (xs : List (Option Value))
    → each_slot f g (x ∷ xs) ≡ slot_becomes f x ∷ g xs
unfolding slot_becomes
each_becomes f g None xs = refl
each_becomes f g (Some v) xs = refl

-- the normal form of a part, where it is put
normals_put : (n : ℕ) (t : TagTree) (p : Presence) (s : Schema) (ps : Parts) (x : Option Value) (xs : List (Option Value)) → length xs ≡ count ps
    → normals (put_part n t p s ps) (insert_at n x xs) ≡ insert_at n (slot_becomes (λ v. settle p s (normal s v)) x) (normals ps xs)
unfolding normals
normals_put zero t p s ps x xs l = each_becomes (λ v. settle p s (normal s v)) (normals ps) x xs
normals_put (suc n) t p s no_parts x [] l = each_becomes (λ v. settle p s (normal s v)) (normals no_parts) x []
normals_put (suc n) t p s (part u q r ps) x (y ∷ ys) l =
    let f = λ (v : Value). settle p s (normal s v) in
    let g = λ (v : Value). settle q r (normal r v) in
    each_becomes g (normals (put_part n t p s ps)) y (insert_at n x ys)
    ∙ ap (λ zs. slot_becomes g y ∷ zs) (normals_put n t p s ps x ys (omega arith))
    ∙ ap (insert_at (suc n) (slot_becomes f x)) (sym (each_becomes g (normals ps) y ys))
normals_put (suc n) t p s no_parts x (y ∷ ys) l = absurd (omega arith)
normals_put (suc n) t p s (part u q r ps) x [] l = absurd (omega arith)

-- the normal forms of parts in order are those of the parts, in order
pub normals_ordered : (ps : Parts) (rs : List (Option Value)) → length rs ≡ count ps
    → canonised_slots ps (normals ps rs) ≡ normals (canonised ps) (canonised_slots ps rs)
unfolding normals
normals_ordered no_parts rs l = refl
normals_ordered (part t p s ps) [] l = absurd (omega arith)
normals_ordered (part t p s ps) (x ∷ xs) l =
    let f = λ (v : Value). settle p s (normal s v) in
    let n = how_many_less (smallest t) (tags ps) in
    let k : length xs ≡ count ps = omega arith in
    ap (by_tags (smallest t ∷ tags ps)) (each_becomes f (normals ps) x xs)
    ∙ ap (insert_at n (slot_becomes f x)) (normals_ordered ps xs k)
    ∙ sym (normals_put n t p s (canonised ps) x (by_tags (tags ps) xs) (length-by_tags (tags ps) xs ∙ k ∙ sym (count_ordered ps)))

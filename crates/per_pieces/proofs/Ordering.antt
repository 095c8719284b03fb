-- What components wrote, in the order of their fields.
use Rattle.std.proofs.Common.{◌≡◌, refl, sym, ap, ap₂, ◌∙◌, subst, ℕ, zero, suc, ◌+◌, ◌<◌, ◌≤◌, List, [], ◌∷◌, map, length, drop, get_or, arith}
use Rattle.std.proofs.lemmas.List.{drop_all, drop_more, get_or-map, get_or_default, get_or_past, length-map}
use Rattle.rasn_schema.specs.Fields.{Shape, in_tag_order, shape_of, shapes_from}
use Rattle.rasn_schema.specs.Structures.{field_tag}
use Rattle.rasn_schema.specs.Orders.{insert_at, how_many_less, by_tags}
use Rattle.rasn_schema.specs.Schemas.{Parts, no_parts, part, Tag, TagTree, leaf, one_of, count, smallest, tags}
use Rattle.rasn_schema.specs.declared.fields.Field.{Field}
use Rattle.per_core.specs.Writers.{Writer, just, one_by_one, ◌▹◌}
use Rattle.per_core.specs.PlacedSets.{placed}
use Rattle.per_pieces.specs.Pieces.{Appends, Pieces, Remains, writer_of}
use Rattle.per_pieces.proofs.Placed.{appends_none, appends_then, remains_after, remains_none}
use Rattle.per_pieces.specs.OpenSets.{Component, bit_writer, bit_writers, in_order, value_writers}

-- one more of some things was written
pub next_of : {X : Type 0} {x y z : Pieces} (fs : List X) (g : X → Writer) (i : ℕ) {f : X} → i < length fs → f ≡ get_or fs i f
    → Remains x (one_by_one (map g fs)) y (one_by_one (drop i (map g fs))) → Appends y (g f) z
    → Remains x (one_by_one (map g fs)) z (one_by_one (drop (i + 1) (map g fs)))
next_of {x = x} {y = y} {z = z} fs g i {f = f} lt at h k =
    let split : drop i (map g fs) ≡ g f ∷ drop (i + 1) (map g fs) =
    drop_more (map g fs) i (g f) (omega (arith, lt, length-map fs g)) ∙ ap (λ (w : Writer). w ∷ drop (i + 1) (map g fs)) (get_or-map g fs i f (g f) lt ∙ ap g (sym at)) in
    remains_after x y z (one_by_one (map g fs)) (one_by_one (drop i (map g fs))) (g f) (one_by_one (drop (i + 1) (map g fs))) h
    (λ p. ap (λ (ws : List Writer). one_by_one ws p) split) k

-- the same, where each is at the index of a field
pub next_at : {x y z : Pieces} (fs : List Field) (ws : List Writer) (i : ℕ) (d : Field) → i < length fs
    → Remains x (one_by_one (in_order fs ws)) y (one_by_one (drop i (in_order fs ws))) → Appends y (get_or ws (get_or fs i d).index (just [])) z
    → Remains x (one_by_one (in_order fs ws)) z (one_by_one (drop (i + 1) (in_order fs ws)))
next_at fs ws i d lt h k =
    next_of fs (λ (f : Field). get_or ws f.index (just [])) i {f = get_or fs i d} lt (get_or_default fs i d (get_or fs i d) lt) h k

-- all were written
pub all_of : {X : Type 0} {x y : Pieces} (fs : List X) (g : X → Writer) (i : ℕ) → length fs ≤ i
    → Remains x (one_by_one (map g fs)) y (one_by_one (drop i (map g fs))) → Appends x (one_by_one (map g fs)) y
all_of {x = x} {y = y} fs g i le h =
    remains_none x y (one_by_one (map g fs)) (one_by_one (drop i (map g fs)))
    (λ p. ap (λ (ws : List Writer). one_by_one ws p) (drop_all i (map g fs) (omega (arith, le, length-map fs g)))) h

-- a map of what is put in order
map_insert : {X Y : Type 0} (g : X → Y) (n : ℕ) (x : X) (xs : List X) → map g (insert_at n x xs) ≡ insert_at n (g x) (map g xs)
map_insert g zero x xs = refl
map_insert g (suc n) x [] = refl
map_insert {Y = Y} g (suc n) x (y ∷ ys) = ap (λ (zs : List Y). g y ∷ zs) (map_insert g n x ys)

map_by_tags : {X Y : Type 0} (g : X → Y) (ts : List Tag) (xs : List X) → map g (by_tags ts xs) ≡ by_tags ts (map g xs)
map_by_tags g ts [] = refl
map_by_tags g [] (x ∷ xs) = refl
map_by_tags g (t ∷ ts) (x ∷ xs) = map_insert g (how_many_less t ts) x (by_tags ts xs) ∙ ap (insert_at (how_many_less t ts) (g x)) (map_by_tags g ts xs)

-- what is at the index of each field is what there is
at_each : {Y : Type 0} (at : ℕ → Y) (d : Y) (ps : Parts) (ws : List Y) (i : ℕ) → ((j : ℕ) → at (i + j) ≡ get_or ws j d) → length ws ≡ count ps
    → map (λ (s : Shape). at s.index) (shapes_from i ps) ≡ ws
at_each at d no_parts [] i h l = refl
at_each at d no_parts (w ∷ ws) i h l = absurd (omega arith)
at_each at d (part t p s ps) [] i h l = absurd (omega arith)
at_each {Y = Y} at d (part t p s ps) (w ∷ ws) i h l =
    let here : i ≡ i + 0 = omega arith in
    ap₂ (λ (y : Y) (ys : List Y). y ∷ ys) (ap at here ∙ h 0)
    (at_each at d ps ws (suc i) (λ j. ap at (let e : suc i + j ≡ i + suc j = omega arith in e) ∙ h (suc j)) (omega arith))

field_is_smallest : (k : TagTree) → field_tag k ≡ smallest k
unfolding smallest
field_is_smallest (leaf t) = refl
field_is_smallest (one_of t ts) = refl

tags_of_fields : (i : ℕ) (ps : Parts) → map (λ (f : Shape). f.tag) (shapes_from i ps) ≡ tags ps
tags_of_fields i no_parts = refl
tags_of_fields i (part k p c ps) = ap₂ (λ (t : Tag) (ts : List Tag). t ∷ ts) (field_is_smallest k) (tags_of_fields (suc i) ps)

map_shapes : (ws : List Writer) (fs : List Field) → in_order fs ws ≡ map (λ (s : Shape). get_or ws s.index (just [])) (map shape_of fs)
map_shapes ws [] = refl
map_shapes ws (f ∷ fs) = ap (λ (us : List Writer). get_or ws f.index (just []) ∷ us) (map_shapes ws fs)

-- X.691 21.1: in the order of the fields, put in ascending order of their tags
pub in_tag_order_of : (ps : Parts) (fields : List Shape) (ordered : List Field) (ws : List Writer) → fields ≡ shapes_from 0 ps → map shape_of ordered ≡ in_tag_order fields
    → length ws ≡ count ps → in_order ordered ws ≡ by_tags (tags ps) ws
in_tag_order_of ps fields ordered ws e o l =
    let at = λ (n : ℕ). get_or ws n (just []) in
    map_shapes ws ordered ∙ ap (map (λ (s : Shape). at s.index)) (o ∙ ap in_tag_order e)
    ∙ map_by_tags (λ (s : Shape). at s.index) (map (λ (s : Shape). s.tag) (shapes_from 0 ps)) (shapes_from 0 ps)
    ∙ ap₂ (λ (ts : List Tag) (us : List Writer). by_tags ts us) (tags_of_fields 0 ps) (at_each at (just []) ps ws 0 (λ j. ap at (let z : 0 + j ≡ j = omega arith in z)) l)

-- X.691 21.1: the presence bits and then the values
pub placed_root : (ps : Parts) (fields : List Shape) (sorted ordered : List Field) (ks cs : List Component) {x y z : Pieces} → fields ≡ shapes_from 0 ps
    → length cs ≡ count ps → map shape_of sorted ≡ in_tag_order fields → ordered ≡ sorted → ks ≡ cs
    → Appends x (one_by_one (in_order ordered (bit_writers ks))) y → Appends y (one_by_one (in_order ordered (value_writers ks))) z
    → Appends x (placed ps (bit_writers cs) ▹ placed ps (value_writers cs)) z
placed_root ps fields sorted ordered ks cs {x = x} {y = y} {z = z} e l o f k g h =
    let shapes = ap (map shape_of) f ∙ o in
    let bits = ap (λ (c : List Component). in_order ordered (bit_writers c)) k
    ∙ in_tag_order_of ps fields ordered (bit_writers cs) e shapes (length-map cs (λ (c : Component). bit_writer c.bit) ∙ l) in
    let values = ap (λ (c : List Component). in_order ordered (value_writers c)) k
    ∙ in_tag_order_of ps fields ordered (value_writers cs) e shapes (length-map cs (λ (c : Component). writer_of c.value.list) ∙ l) in
    appends_then x y z (placed ps (bit_writers cs)) (placed ps (value_writers cs)) (subst (λ (ws : List Writer). Appends x (one_by_one ws) y) bits g)
    (subst (λ (ws : List Writer). Appends y (one_by_one ws) z) values h)

-- nothing is past the last
pub nothing_past : (x : Pieces) (ws : List Writer) (i : ℕ) → length ws ≤ i → Appends x (get_or ws i (just [])) x
nothing_past x ws i le = subst (λ (w : Writer). Appends x w x) (sym (get_or_past ws i (just []) le)) (appends_none x)

-- what a component wrote
pub put_at : (g : Component → Writer) (cs : List Component) (i : ℕ) (k : Component) (w : Writer) {x y : Pieces} → k ≡ get_or cs i k → i < length cs → g k ≡ w
    → Appends x w y → Appends x (get_or (map g cs) i (just [])) y
put_at g cs i k w {x = x} {y = y} at lt e h =
    subst (λ (v : Writer). Appends x v y) (sym (get_or-map g cs i k (just []) lt ∙ ap g (sym at) ∙ e)) h

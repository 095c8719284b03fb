-- The order in which a record's root parts are written, a SET's by ascending smallest tags (ITU-T X.691, 21.1; X.680,
-- 8.6).
use Rattle.std.specs.Prelude.{ℕ, zero, suc, ◌+◌, if◌then◌else◌, List, [], ◌∷◌, Option}
use Rattle.rasn_types.specs.Values.{Value}
use Rattle.rasn_schema.specs.Schemas.{Tag, tag_less, Order, listed, by_tag, TagTree, smallest, Presence, Schema, Parts}
use Rattle.rasn_schema.specs.Schemas.{no_parts, part, tags}

-- x put into a list at a place, or at its end
abbrev pub insert_at {ℓ} : {A : Type ℓ} → ℕ → A → List A → List A
insert_at zero x ys = x ∷ ys
insert_at (suc n) x [] = x ∷ []
insert_at (suc n) x (y ∷ ys) = y ∷ insert_at n x ys

-- how many tags of a list are less than t
abbrev pub how_many_less : Tag → List Tag → ℕ
how_many_less t [] = 0
how_many_less t (u ∷ us) = (if tag_less u t then 1 else 0) + how_many_less t us

-- X.680 8.6: what hangs on each tag, in ascending order of the tags
abbrev pub by_tags {ℓ} : {A : Type ℓ} → List Tag → List A → List A
by_tags ts [] = []
by_tags [] (x ∷ xs) = x ∷ xs
by_tags (t ∷ ts) (x ∷ xs) = insert_at (how_many_less t ts) x (by_tags ts xs)

-- X.691 19.6, 21.1: a SEQUENCE's parts as listed, a SET's in ascending order of their tags
abbrev pub ordered {ℓ} : {A : Type ℓ} → Order → List Tag → List A → List A
ordered listed ts xs = xs
ordered by_tag ts xs = by_tags ts xs

-- a component put into others at a place, or at their end
abbrev pub put_part : ℕ → TagTree → Presence → Schema → Parts → Parts
put_part zero t p s qs = part t p s qs
put_part (suc n) t p s no_parts = part t p s no_parts
put_part (suc n) t p s (part u q c qs) = part u q c (put_part n t p s qs)

-- X.691 21.1: components in ascending order of their smallest tags
abbrev pub canonised : Parts → Parts
canonised no_parts = no_parts
canonised (part t p s ps) = put_part (how_many_less (smallest t) (tags ps)) t p s (canonised ps)

-- components in ascending order of their smallest tags, to each number of levels
abbrev pub canonised_at : (ℕ → Parts) → ℕ → Parts
canonised_at parts n = canonised (parts n)

-- X.691 21.1: what components are, in ascending order of the components' smallest tags
abbrev pub canonised_slots : Parts → List (Option Value) → List (Option Value)
canonised_slots ps rs = by_tags (tags ps) rs

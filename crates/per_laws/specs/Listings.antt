-- What the demands on a lawful schema are about: the tags of alternatives, defaults, and the listing of a SET's
-- components.
use Rattle.std.specs.Prelude.{ℕ, zero, suc, ◌≡◌, ◌⊎◌, Bool, List, [], ◌∷◌, Option}
use Rattle.rasn_types.specs.Values.{Value, Side, root, added}
use Rattle.rasn_schema.specs.Depth.{any_of}
use Rattle.rasn_schema.specs.Lawful.{leaves, same_tag}
use Rattle.rasn_schema.specs.Schemas.{Tag, TagTree, Presence, default, Schema, Parts, no_parts, part}

-- X.680 29.3: the tags of the alternative at a place; none where there is no alternative
abbrev pub tags_at : Parts → ℕ → List Tag
tags_at no_parts i = []
tags_at (part t p s ps) zero = leaves t
tags_at (part t p s ps) (suc i) = tags_at ps i

-- X.680 29.3: whether a tag is one of the alternative at a place, in the root or after the extension marker
abbrev pub has_tag : Parts → Parts → Side → ℕ → Tag → Bool
has_tag ps adds root i t = any_of (same_tag t) (tags_at ps i)
has_tag ps adds added i t = any_of (same_tag t) (tags_at adds i)

-- X.680 25.9: one of the parts has the schema and the default
abbrev pub HasDefault : Parts → Schema → Value → Type 0
HasDefault no_parts s d = ⊥
HasDefault (part t p s' ps) s d = ((p ≡ default d) × (s' ≡ s)) ⊎ HasDefault ps s d

-- X.680 27.1: the same components, each with its value, listed in another order
pub data Relisted : Parts → List (Option Value) → Parts → List (Option Value) → Type 0 where
  nothing_listed : Relisted no_parts [] no_parts []
  kept : {t : TagTree} {p : Presence} {s : Schema} {x : Option Value} {ps qs : Parts} {xs ys : List (Option Value)}
      → Relisted ps xs qs ys
      → Relisted (part t p s ps) (x ∷ xs) (part t p s qs) (x ∷ ys)
  exchanged : {t t' : TagTree} {p p' : Presence} {s s' : Schema} {x y : Option Value} {ps qs : Parts}
      {xs ys : List (Option Value)} → Relisted ps xs qs ys
      → Relisted (part t p s (part t' p' s' ps)) (x ∷ y ∷ xs) (part t' p' s' (part t p s qs)) (y ∷ x ∷ ys)
  in_turn : {ps qs rs : Parts} {xs ys zs : List (Option Value)} → Relisted ps xs qs ys → Relisted qs ys rs zs
      → Relisted ps xs rs zs

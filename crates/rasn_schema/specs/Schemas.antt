-- The types of ITU-T X.680 as the packed encoding rules see them (X.691, 10.3): a finite tree of kinds.
use Rattle.std.specs.Prelude.{ℕ, ◌+◌, Bool, true, false, if◌then◌else◌, nat_lt, List, [], ◌∷◌}
use Rattle.rasn_types.specs.Contents.{TextKind, TimeKind}
use Rattle.rasn_types.specs.Values.{Value}
use Rattle.rasn_constraints.specs.Bounds.{Bounds, Size}

-- X.680 8.1: a class, 0 to 3 for universal, application, context-specific and private, and a number
pub record Tag : Type 0 where
  pub class : ℕ
  pub number : ℕ

-- X.691 21.1: a part's tag, or those of the root alternatives of an untagged CHOICE, at least one
mutual
  -- one tag, or a tree for each alternative
  pub data TagTree : Type 0 where
    leaf : Tag → TagTree
    one_of : TagTree → TagTrees → TagTree

  -- the trees of further alternatives
  pub data TagTrees : Type 0 where
    no_trees : TagTrees
    tree : TagTree → TagTrees → TagTrees

-- X.680 8.6: the order of tags: by class, then by number
abbrev pub tag_less : Tag → Tag → Bool
tag_less s t = if nat_lt s.class t.class then true else if nat_lt t.class s.class
    then false else nat_lt s.number t.number

-- the lesser of two tags
abbrev pub lesser : Tag → Tag → Tag
lesser s t = if tag_less t s then t else s

-- X.691 21.1: an untagged CHOICE counts with the smallest tag of its root alternatives, nested untagged ones included
unfoldable mutual
  -- the smallest tag of a tree
  pub smallest : TagTree → Tag
  smallest (leaf t) = t
  smallest (one_of t ts) = least_of (smallest t) ts

  -- the smallest of a tag and those of trees
  pub least_of : Tag → TagTrees → Tag
  least_of t no_trees = t
  least_of t (tree u us) = lesser (smallest u) (least_of t us)

-- X.680 25.6, 25.7, 25.9: whether a part must be there, may be absent, is an addition group, or has a default value
pub data Presence : Type 0 where
  required : Presence
  optional : Presence
  group : Presence
  default : Value → Presence

-- X.691 19.6, 21.1: whether a record's root parts are written as listed (SEQUENCE) or by their tags (SET)
pub data Order : Type 0 where
  listed by_tag : Order

mutual
  -- X.680 8.1, X.691 10.3: a type with its effective constraints. `marked` says that the constraint is extensible,
  -- `extensible` that the type has an extension marker, `named` that bits have names (X.680 22.1).
  pub data Schema : Type 0 where
    -- X.691 12, 18, 15, 11.2, 24, 32: BOOLEAN; NULL; REAL; octets of a type that isn't known; OBJECT IDENTIFIER; DATE;
    -- and `cut`, where the tree is cut off and nothing has an encoding
    boolean null real any identifier date cut : Schema
    -- X.691 30.6: a string that isn't a known-multiplier string
    text : TextKind → Schema
    -- X.680 46, 47: UTCTime or GeneralizedTime, which is a VisibleString
    time : TimeKind → Schema
    -- X.691 13: INTEGER; `range` is that of the number type which holds it
    number : (bounds : Bounds) → (marked : Bool) → (range : Bounds) → Schema
    -- X.691 14: ENUMERATED, by how many items are before the extension marker and after it
    items : (roots addeds : ℕ) → (extensible : Bool) → Schema
    -- X.691 17: OCTET STRING
    octet_string : Size → (marked : Bool) → Schema
    -- X.691 16: BIT STRING
    bit_string : Size → (marked named : Bool) → Schema
    -- X.691 30.5: a known-multiplier string over its permitted characters, in ascending order
    char_string : (alphabet : List ℕ) → Size → (marked : Bool) → Schema
    -- X.682 11, X.691 11.2: octets that are the complete encoding of a value: an OCTET STRING (CONTAINING ..), or an
    -- open type of which the type is told
    containing : Schema → Schema
    -- X.691 20: SEQUENCE OF
    list : Schema → Size → (marked : Bool) → Schema
    -- X.691 22: SET OF
    set_of : Schema → Size → (marked : Bool) → Schema
    -- X.691 19, 21: SEQUENCE or SET, by the order of its root parts
    sequence : Order → (root : Parts) → (extensible : Bool) → (additions : Parts) → Schema
    -- X.691 23: CHOICE
    choice : (root : Parts) → (additions : Parts) → (extensible : Bool) → Schema

  -- X.680 25, 27, 29: parts, additions or alternatives, each with its tags, its presence and its schema; an alternative
  -- is required
  pub data Parts : Type 0 where
    no_parts : Parts
    part : TagTree → Presence → Schema → Parts → Parts

-- X.691 21.1: each part's smallest tag
abbrev pub tags : Parts → List Tag
tags no_parts = []
tags (part t p s ps) = smallest t ∷ tags ps

-- how many parts there are
abbrev pub count : Parts → ℕ
count no_parts = 0
count (part t p s ps) = 1 + count ps

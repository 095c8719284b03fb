-- Which tags a type of a kind may have.
use Rattle.std.specs.Prelude.{ℕ, zero, suc, ◌≡◌, Bool, true, false, ◌||◌, ◌==◌, List, [], ◌∷◌, Option, Some, refl}
use Rattle.rasn_types.specs.Contents.{utf8, other, utc, generalized}
use Rattle.rasn_types.specs.declared.types.Tag.{Tag}
use Rattle.rasn_types.specs.declared.types.Class.{Class}
use Rattle.rasn_types.specs.declared.types.Class.TheVariants.{Universal, Application, Context, Private}
use Rattle.rasn_types.specs.declared.types.TheConstants.Tag.{EOC, SEQUENCE}
use Rattle.rasn_schema.specs.Choices.{VariantShape, choice_at, tree_with, trees_in, variants_of}
use Rattle.rasn_schema.specs.Laws.Choices.{tree_described}
use Rattle.rasn_schema.specs.Fields.{choice_tree, tagged}
use Rattle.rasn_schema.specs.Schemas
use Rattle.rasn_schema.specs.Schemas.{Schema, Parts, listed, by_tag, part, leaf, one_of, tree}
use Rattle.rasn_schema.specs.Records.{record_at}

-- X.680 8.4, table 1: the universal numbers of the types of a kind. Several string types are of one kind. A CHOICE
-- (X.680 29) and a type that isn't known have no tag of their own, and 0 stands for it.
abbrev pub universal_numbers : Schema → List ℕ
universal_numbers Schemas.boolean = 1 ∷ []
universal_numbers (Schemas.number b m r) = 2 ∷ []
universal_numbers (Schemas.bit_string z m n) = 3 ∷ []
universal_numbers (Schemas.octet_string z m) = 4 ∷ []
universal_numbers Schemas.null = 5 ∷ []
universal_numbers Schemas.identifier = 6 ∷ []
universal_numbers Schemas.real = 9 ∷ []
universal_numbers (Schemas.items r e x) = 10 ∷ []
universal_numbers (Schemas.text utf8) = 12 ∷ []
universal_numbers (Schemas.sequence listed o x a) = 16 ∷ []
universal_numbers (Schemas.list e z m) = 16 ∷ []
universal_numbers (Schemas.sequence by_tag o x a) = 17 ∷ []
universal_numbers (Schemas.set_of e z m) = 17 ∷ []
universal_numbers (Schemas.char_string a z m) = 18 ∷ 19 ∷ 22 ∷ 26 ∷ 30 ∷ []
universal_numbers (Schemas.text other) = 20 ∷ 25 ∷ 27 ∷ []
universal_numbers (Schemas.time utc) = 23 ∷ []
universal_numbers (Schemas.time generalized) = 24 ∷ []
universal_numbers Schemas.date = 31 ∷ []
universal_numbers (Schemas.choice p a x) = 0 ∷ []
universal_numbers Schemas.any = 0 ∷ []
universal_numbers (Schemas.containing e) = 0 ∷ 4 ∷ []
universal_numbers Schemas.cut = []

-- whether a number is one of a list
abbrev pub is_one_of : List ℕ → ℕ → Bool
is_one_of [] i = false
is_one_of (n ∷ ns) i = (i == n) || is_one_of ns i

-- X.680 31: a tag of another class is that of a tagged type, of any kind
abbrev pub is_tag_in_class : Class → ℕ → Schema → Bool
is_tag_in_class Universal i s = is_one_of (universal_numbers s) i
is_tag_in_class Application i s = true
is_tag_in_class Context i s = true
is_tag_in_class Private i s = true

-- whether a tag may be that of a type with a schema; where the tree is cut off no kind shows
abbrev pub is_tag_of : Tag → Schema → Bool
is_tag_of t Schemas.cut = true
is_tag_of t s = is_tag_in_class t.class t.value s

-- the tag of a family's types
abbrev pub IsTagOf : Tag → (ℕ → Schema) → Type 0
IsTagOf t schema = (n : ℕ) → is_tag_of t (schema n) ≡ true

-- SEQUENCE is the tag of each SEQUENCE
pub sequence_tag : (root : ℕ → Parts) (extensible : Bool) (additions : ℕ → Parts)
    → IsTagOf (record { class = Universal; value = 16 }) (record_at listed root extensible additions)
sequence_tag root extensible additions zero = refl
sequence_tag root extensible additions (suc n) = refl

-- a CHOICE has no tag of its own
pub choice_tag : (alternatives : ℕ → Parts) (xs : Option (List VariantShape)) (behind : ℕ → Parts)
    → IsTagOf EOC (choice_at alternatives xs behind)
choice_tag alternatives xs behind zero = refl
choice_tag alternatives xs behind (suc n) = refl

-- X.680 29: whether a type is a CHOICE
abbrev pub is_choice_schema : Schema → Bool
is_choice_schema (Schemas.choice p a x) = true
is_choice_schema _ = false

-- X.680 29, 31: the tag tree of a CHOICE with a tag and root alternatives: an untagged one has their trees, and none
-- where there is no alternative
abbrev pub choice_tree_in : Class → Tag → Parts → Option Schemas.TagTree
choice_tree_in Universal t ps = choice_tree (Some (trees_in ps))
choice_tree_in Application t ps = Some (tagged t)
choice_tree_in Context t ps = Some (tagged t)
choice_tree_in Private t ps = Some (tagged t)

-- X.680 29: the tag tree of a type with a tag and a schema
abbrev pub tree_under : Tag → Schema → Option Schemas.TagTree
tree_under t (Schemas.choice p a x) = choice_tree_in t.class t p
tree_under t _ = Some (tagged t)

-- What a type states is so of its schema: its tag tree, and whether it is a CHOICE. Where the tree of kinds is cut off
-- no kind shows.
abbrev pub IsStatedOf : Tag → Option Schemas.TagTree → Bool → Schema → Type 0
IsStatedOf t stated is_choice Schemas.cut = Unit {0}
IsStatedOf t stated is_choice s = (stated ≡ tree_under t s) × (is_choice ≡ is_choice_schema s)

-- what the types of a family state
abbrev pub AreTagsOf : Tag → Option Schemas.TagTree → Bool → (ℕ → Schema) → Type 0
AreTagsOf t stated is_choice schema = (n : ℕ) → IsStatedOf t stated is_choice (schema n)

-- the tags of a SEQUENCE are its own
pub sequence_stated : (root : ℕ → Parts) (extensible : Bool) (additions : ℕ → Parts)
    → AreTagsOf SEQUENCE (Some (tagged SEQUENCE)) false (record_at listed root extensible additions)
sequence_stated root extensible additions zero = tt
sequence_stated root extensible additions (suc n) = (refl, refl)

-- the tags of an untagged CHOICE are those of its root alternatives
pub choice_stated : {vs : List VariantShape} (alternatives : ℕ → Parts)
    → ((n : ℕ) → vs ≡ variants_of (alternatives n)) → (xs : Option (List VariantShape)) (behind : ℕ → Parts)
    → AreTagsOf EOC (tree_with vs) true (choice_at alternatives xs behind)
choice_stated alternatives described xs behind zero = tt
choice_stated alternatives described xs behind (suc n) = (tree_described (alternatives n) (described n), refl)

-- X.680 8.4, 31: whether a tag, by its class's number and its own, may be the whole tag tree of a component with a
-- schema. One of another class than universal is that of a tagged type, of any kind. A CHOICE with alternatives has no
-- tag of its own.
abbrev pub may_be_whole : ℕ → ℕ → Schema → Bool
may_be_whole (suc c) i s = true
may_be_whole zero i Schemas.cut = true
may_be_whole zero i (Schemas.choice (part t p s ps) a x) = false
may_be_whole zero i s = is_one_of (universal_numbers s) i

-- X.680 29, 31: the tag tree of a component is that of its schema: a tag alone, or the trees of an untagged CHOICE's
-- root alternatives. Where the tree of kinds is cut off no kind shows.
abbrev pub IsTreeOf : Schemas.TagTree → Schema → Type 0
IsTreeOf (leaf t) s = may_be_whole t.class t.number s ≡ true
IsTreeOf (one_of t ts) (Schemas.choice p a x) = tree t ts ≡ trees_in p
IsTreeOf (one_of t ts) Schemas.cut = Unit {0}
IsTreeOf (one_of t ts) _ = ⊥

-- at each number of levels
abbrev pub IsTreeAt : Schemas.TagTree → (ℕ → Schema) → Type 0
IsTreeAt t schema = (n : ℕ) → IsTreeOf t (schema n)

-- SEQUENCE's tag is the tree of a SEQUENCE
pub sequence_fits : (root : ℕ → Parts) (extensible : Bool) (additions : ℕ → Parts)
    → IsTreeAt (tagged SEQUENCE) (record_at listed root extensible additions)
sequence_fits root extensible additions zero = refl
sequence_fits root extensible additions (suc n) = refl

-- When a type of one table is a newer version of a type of another (ITU-T X.680, 52), wherever the listed pairs of the
-- types that are within are. The newer table comes first.
use Rattle.std.specs.Prelude.{ℕ, ℤ, ◌≡◌, Bool, true, List, ◌++◌, Option, Contains, slice_get}
use Rattle.std.specs.List.{All}
use Rattle.rasn_constraints.specs.Constraints.{bounds_of, size_between}
use Rattle.rasn_constraints.specs.declared.constraints.Bounded.{Bounded}
use Rattle.rasn_constraints.specs.declared.constraints.Extensible.{Extensible}
use Rattle.rasn_types.specs.Values.{Value}
use Rattle.rasn_schema.specs.Depth.{CutOf}
use Rattle.rasn_schema.specs.Structures.{tag_of}
use Rattle.rasn_schema.specs.Lawful.{is_value}
use Rattle.rasn_schema.specs.Schemas
use Rattle.rasn_schema.specs.Schemas.{Schema}
use Rattle.per_core.specs.Versions.{Newer, NewerParts, NewerPresence}
use Rattle.rasn_dynamic.specs.declared.types.Alternative.{Alternative}
use Rattle.rasn_dynamic.specs.declared.types.Component.{Component}
use Rattle.rasn_dynamic.specs.declared.types.DefaultTree.{DefaultTree}
use Rattle.rasn_dynamic.specs.declared.types.Kind.{Kind}
use Rattle.rasn_dynamic.specs.Defaults.{groups}
use Rattle.rasn_dynamic.specs.Types.{alternatives_in, at_place, kind_in, parts_in, plain_in, presence_of, tree_value}
use Rattle.lawful_types.specs.TypeRules.{is_default_tree_of}
use Rattle.lawful_types.specs.declared.pairs.Pair.{Pair}

-- a list is the front of another
abbrev pub IsFront : List Pair → List Pair → Type 0
IsFront ps qs = (rest : List Pair) × (qs ≡ ps ++ rest)

-- two places are a pair of a list
abbrev pub IsListed : List Pair → ℕ → ℕ → Type 0
IsListed ps i j = Contains ps (record { newer = i; older = j })

-- a value of a schema, of which branches may be cut off
pub record IsValueOf (s : Schema) (v : Value) : Type 0 where
  pub whole : Schema
  pub is_cut : CutOf s whole
  pub of_whole : is_value whole v ≡ true

-- a default that is a value of its type by the rules of lawful types is one along the schemas of places
abbrev pub KeepDefaults : List Kind → (ℕ → Schema) → Type 0
KeepDefaults ts s = (j : ℕ) (d : DefaultTree) → is_default_tree_of ts j d ≡ true → IsValueOf (s j) (tree_value d)

-- the schemas of the places of two tables, of which those of each listed pair are newer versions
pub record AreVersions (ts' ts : List Kind) (ps : List Pair) (s' s : ℕ → Schema) : Type 0 where
  pub newer : (i j : ℕ) → IsListed ps i j → Newer (s' i) (s j)
  pub newer_defaults : KeepDefaults ts' s'
  pub defaults : KeepDefaults ts s

-- what isn't octets that contain a value
abbrev pub IsNewerPlain : List Kind → List Kind → List Pair → Kind → Kind → Type 0
IsNewerPlain ts' ts ps k' k = (s' s : ℕ → Schema) (n : ℕ) → AreVersions ts' ts ps s' s
    → Newer (plain_in ts' s' n k') (plain_in ts s n k)

-- X.691 11.2: an open type
abbrev pub IsOpen : Kind → Type 0
IsOpen k = (ts : List Kind) (s : ℕ → Schema) (n : ℕ) → plain_in ts s n k ≡ Schemas.any

-- what is within octets that contain it, if anything does
abbrev pub IsNewerWithin : List Kind → List Kind → List Pair → Option Kind → Option Kind → Type 0
IsNewerWithin ts' ts ps o' o = (s' s : ℕ → Schema) (n : ℕ) → AreVersions ts' ts ps s' s
    → Newer (at_place (plain_in ts' s' n) o') (at_place (plain_in ts s n) o)

-- any type
abbrev pub IsNewerKind : List Kind → List Kind → List Pair → Kind → Kind → Type 0
IsNewerKind ts' ts ps k' k = (s' s : ℕ → Schema) (n : ℕ) → AreVersions ts' ts ps s' s
    → Newer (kind_in ts' s' n k') (kind_in ts s n k)

-- what is at the places of a pair, if anything does
abbrev pub IsNewerPair : List Kind → List Kind → List Pair → Pair → Type 0
IsNewerPair ts' ts ps p = (s' s : ℕ → Schema) (n : ℕ) → AreVersions ts' ts ps s' s
    → Newer (at_place (kind_in ts' s' n) (slice_get ts' p.newer)) (at_place (kind_in ts s n) (slice_get ts p.older))

-- each pair of a list is newer wherever all of them are
abbrev pub AreClosed : List Kind → List Kind → List Pair → Type 0
AreClosed ts' ts ps = All (IsNewerPair ts' ts ps) ps

-- whether a component has to be there, wherever its type is newer; by whether it is after an extension marker
abbrev pub IsNewerPresence : Bool → List Kind → List Kind → Component → Component → Type 0
IsNewerPresence behind ts' ts c' c = (s' s : ℕ → Schema) → Newer (s' c'.of) (s c.of) → KeepDefaults ts' s'
    → KeepDefaults ts s
    → NewerPresence (s' c'.of) (s c.of) (presence_of (groups behind ts' c') c'.presence)
    (presence_of (groups behind ts c) c.presence)

-- a component of a record
pub record IsNewerComponent (behind : Bool) (ts' ts : List Kind) (ps : List Pair) (c' c : Component) : Type 0 where
  pub tag : tag_of c'.tag ≡ tag_of c.tag
  pub listed : IsListed ps c'.of c.of
  pub presence : IsNewerPresence behind ts' ts c' c

-- the components before an extension marker, or those after it, where there may be more
abbrev pub AreNewerComponents : Bool → List Kind → List Kind → List Pair → List Component → List Component → Type 0
AreNewerComponents behind ts' ts ps cs' cs = (s' s : ℕ → Schema) → AreVersions ts' ts ps s' s
    → NewerParts behind (parts_in (groups behind ts') s' cs') (parts_in (groups behind ts) s cs)

-- an alternative of a choice
pub record IsNewerAlternative (ps : List Pair) (c' c : Alternative) : Type 0 where
  pub tag : tag_of c'.tag ≡ tag_of c.tag
  pub listed : IsListed ps c'.of c.of

-- the alternatives before an extension marker, or those after it, where there may be more
abbrev pub AreNewerAlternatives : Bool → List Pair → List Alternative → List Alternative → Type 0
AreNewerAlternatives behind ps cs' cs = (s' s : ℕ → Schema) → ((i j : ℕ) → IsListed ps i j → Newer (s' i) (s j))
    → NewerParts behind (alternatives_in s' cs') (alternatives_in s cs)

-- the bounds of two numbers, and their marks
pub record IsSameNumber (b' b : Extensible (Bounded ℤ)) : Type 0 where
  pub bounds : bounds_of b'.constraint ≡ bounds_of b.constraint
  pub mark : b'.extensible ≡ b.extensible

-- two sizes, and their marks
pub record IsSameSize (b' b : Extensible (Bounded ℕ)) : Type 0 where
  pub size : size_between b'.constraint ≡ size_between b.constraint
  pub mark : b'.extensible ≡ b.extensible

-- The schemas of a table of types: of each place, to each number of levels.
use Rattle.std.specs.Prelude.{ℕ, zero, suc, Bool, true, false, List, [], ◌∷◌, length, map, Option, Some, None}
use Rattle.std.specs.Prelude.{count_by, is_some, nat_lt, option_map, slice_get, ℤ}
use Rattle.std.specs.Global.{Vec}
use Rattle.rasn_types.specs.Alphabets.{bmp, ia5, numeric, printable, visible}
use Rattle.rasn_types.specs.Contents.{generalized, other, utc, utf8}
use Rattle.rasn_types.specs.Values.{Value, truth, nothing, whole, octets, bits, characters, alternative}
use Rattle.rasn_constraints.specs.Bounds.{unbounded}
use Rattle.rasn_constraints.specs.Constraints.{effective}
use Rattle.rasn_constraints.specs.declared.constraints.Bounded.{Bounded}
use Rattle.rasn_constraints.specs.declared.constraints.Constraint.TheVariants as Stated
use Rattle.rasn_constraints.specs.declared.constraints.Constraints.{Constraints}
use Rattle.rasn_constraints.specs.declared.constraints.Extensible.{Extensible}
use Rattle.rasn_schema.specs.Enumerations.{is_extensible, items_of}
use Rattle.rasn_schema.specs.Structures.{tag_of, list_value, record_value}
use Rattle.rasn_schema.specs.Forms.{bit_schema, character_schema, is_size_marked}
use Rattle.rasn_schema.specs.Forms.{named_bit_schema, number_schema, octet_schema, size_of}
use Rattle.rasn_schema.specs.Records.{record_at}
use Rattle.rasn_schema.specs.Schemas
use Rattle.rasn_schema.specs.Schemas.{Schema, Parts, no_parts, part, leaf, listed}
use Rattle.rasn_traits.specs.Counted.{index_in, item_at, side_of}
use Rattle.rasn_traits.specs.Moments.{date_at}
use Rattle.rasn_schema.specs.declared.items.ItemCounts.{ItemCounts}
use Rattle.rasn_schema.specs.declared.items.Place.{Place}
use Rattle.rasn_schema.specs.declared.items.Place.TheVariants.{Root, Added}
use Rattle.rasn_dynamic.specs.declared.types.Alternative.{Alternative}
use Rattle.rasn_dynamic.specs.declared.types.CharacterString.{CharacterString}
use Rattle.rasn_dynamic.specs.declared.types.CharacterType.{CharacterType}
use Rattle.rasn_dynamic.specs.declared.types.CharacterType.TheVariants.{Visible, Ia5, Printable, Numeric, Bmp}
use Rattle.rasn_dynamic.specs.declared.types.Choice.{Choice}
use Rattle.rasn_dynamic.specs.declared.types.Component.{Component}
use Rattle.rasn_dynamic.specs.declared.types.Items.{Items}
use Rattle.rasn_dynamic.specs.declared.types.Presence.{Presence}
use Rattle.rasn_dynamic.specs.declared.types.DefaultValue.{DefaultValue}
use Rattle.rasn_dynamic.specs.declared.types.DefaultValue.TheVariants
use Rattle.rasn_dynamic.specs.declared.types.DefaultTree.{DefaultTree}
use Rattle.rasn_dynamic.specs.declared.types.DefaultTree.TheOpen.{DefaultTree-F}
use Rattle.rasn_dynamic.specs.declared.types.DefaultTree.TheOpen as Trees
use Rattle.rasn_dynamic.specs.declared.types.DefaultTree.TheFolds.{fold-DefaultTree}
use Rattle.rasn_dynamic.specs.declared.types.Presence.TheVariants.{Required, Optional, Group, Default}
use Rattle.rasn_dynamic.specs.declared.types.ObjectSet.{ObjectSet}
use Rattle.rasn_dynamic.specs.declared.types.Record.{Record}
use Rattle.rasn_dynamic.specs.declared.types.Row.{Row}
use Rattle.rasn_dynamic.specs.declared.types.Simple.{Simple}
use Rattle.rasn_dynamic.specs.declared.types.Simple.TheVariants.{BitString, Boolean, Characters, Enumerated}
use Rattle.rasn_dynamic.specs.declared.types.Simple.TheVariants.{GeneralizedTime, Integer, NamedBits, UtcTime}
use Rattle.rasn_dynamic.specs.declared.types.Simple.TheVariants.{Null, ObjectIdentifier, OctetString, Open, Text, Utf8}
use Rattle.rasn_dynamic.specs.declared.types.Kind.{Kind}
use Rattle.rasn_dynamic.specs.declared.types.Kind.TheVariants.{Simple as SimpleKind, List as ListKind, SetOf}
use Rattle.rasn_dynamic.specs.declared.types.Kind.TheVariants.{Date, Record as RecordKind, Choice as ChoiceKind}
use Rattle.rasn_dynamic.specs.declared.types.Kind.TheVariants.{Containing, Open as OpenKind}

-- how many items there are before the extension marker, and after it
abbrev pub counts_of : Items → ItemCounts
counts_of i = record { roots = length i.roots.items; addeds = option_map (λ v. length v.items) i.addeds }

-- the constraint to bounds of a number
abbrev pub of_value : Extensible (Bounded ℤ) → Constraints
of_value b = effective (Stated.Value b ∷ [])

-- the constraint to bounds of a count
abbrev pub of_size : Extensible (Bounded ℕ) → Constraints
of_size b = effective (Stated.Size b ∷ [])

-- X.680 41: the characters of a type
abbrev pub characters_of : CharacterType → List ℕ
characters_of Visible = visible
characters_of Ia5 = ia5
characters_of Printable = printable
characters_of Numeric = numeric
characters_of Bmp = bmp

-- the constraints of a character string: its size, and the characters that it may have
abbrev pub of_characters : CharacterString → Constraints
of_characters s = record {
  value = None;
  size = Some s.size;
  alphabet = option_map (λ cs. record { constraint = cs.items; extensible = false }) s.alphabet;
}

-- X.691 30: a character string
abbrev pub string_schema : CharacterString → Schema
string_schema s = character_schema (characters_of s.of) (of_characters s)

-- a type in which no other stands, and which takes no level
abbrev pub simple_schema : Simple → Schema
simple_schema Boolean = Schemas.boolean
simple_schema Null = Schemas.null
simple_schema (Integer c) = number_schema (of_value c) unbounded
simple_schema (Enumerated i) = items_of (counts_of i)
simple_schema (OctetString c) = octet_schema (of_size c)
simple_schema (BitString c) = bit_schema (of_size c)
simple_schema (NamedBits c) = named_bit_schema (of_size c)
simple_schema (Characters s) = string_schema s
simple_schema Utf8 = Schemas.text utf8
simple_schema Text = Schemas.text other
simple_schema ObjectIdentifier = Schemas.identifier
simple_schema UtcTime = Schemas.time utc
simple_schema GeneralizedTime = Schemas.time generalized
simple_schema Open = Schemas.any

-- X.680 22.7: of a type whose values are named bits, their size
abbrev pub named_size : Option Kind → Option (Extensible (Bounded ℕ))
named_size (Some (SimpleKind (NamedBits c))) = Some c
named_size k = None

-- what is within octets that contain it, and else the type itself
abbrev pub within : List Kind → Option Kind → Option Kind
within ts (Some (Containing i)) = slice_get ts i
within ts k = k

-- the value that a default is which holds none
abbrev pub default_value : DefaultValue → Value
default_value (TheVariants.Boolean b) = truth b
default_value TheVariants.Null = nothing
default_value (TheVariants.Integer z) = whole z
default_value (TheVariants.Item p) = item_at p
default_value (TheVariants.Octets os) = octets os
default_value (TheVariants.Bits bs) = bits bs
default_value (TheVariants.Characters cs) = characters cs
default_value TheVariants.NoElements = list_value []

-- NULL stands for an absent value of a default where one is asked for
abbrev pub stated : Option Value → Value
stated None = nothing
stated (Some v) = v

-- one level of a default, which has what its parts are in their place: each absent or there
abbrev pub tree_step : DefaultTree-F (Option Value) → Option Value
tree_step Trees.Absent = None
tree_step (Trees.Plain d) = Some (default_value d)
tree_step (Trees.Elements v) = Some (list_value (map stated v.items))
tree_step (Trees.Fields v w) = Some (record_value v.items w.items)
tree_step (Trees.Alternative p v) = Some (alternative (side_of p) (index_in p) (stated v.value))

-- what a default is: absent or there
abbrev pub tree_slot : DefaultTree → Option Value
tree_slot = fold-DefaultTree (Option Value) tree_step

-- the value that a default is
abbrev pub tree_value : DefaultTree → Value
tree_value d = stated (tree_slot d)

-- whether a component has to be there, by whether it may be a group; a group that may not is one that may be absent
abbrev pub presence_of : Bool → Presence → Schemas.Presence
presence_of b Required = Schemas.required
presence_of b Optional = Schemas.optional
presence_of true Group = Schemas.group
presence_of false Group = Schemas.optional
presence_of b (Default d) = Schemas.default (tree_value d)

-- no root component is a group
abbrev pub in_root : Component → Bool
in_root c = false

-- whether it has a presence bit in the root
abbrev pub is_not_required : Presence → Bool
is_not_required Required = false
is_not_required Optional = true
is_not_required Group = true
is_not_required (Default d) = true

-- whether a root component of a record has to be there
abbrev pub has_required : Record → Bool
has_required r = nat_lt (count_by (λ c. is_not_required c.presence) r.root.items) (length r.root.items)

-- of a SEQUENCE, whether a root component has to be there
abbrev pub required_in : Option Kind → Option Bool
required_in (Some (RecordKind r)) = Some (has_required r)
required_in k = None

-- whether an addition may be a group: its type is a SEQUENCE (X.680 25.1)
abbrev pub grouped : List Kind → Component → Bool
grouped ts c = is_some (required_in (slice_get ts c.of))

-- what is after an extension marker, where there is one
abbrev pub behind : {A : Type 0} → Option (Vec A) → List A
behind None = []
behind (Some v) = v.items

-- how many components are after one
abbrev pub added_count : Option (Vec Component) → Option ℕ
added_count None = None
added_count (Some v) = Some (length v.items)

-- the components of a record, by which of them may be groups, and the schemas of places
abbrev pub parts_in : (Component → Bool) → (ℕ → Schema) → List Component → Parts
parts_in g s [] = no_parts
parts_in g s (c ∷ cs) = part (leaf (tag_of c.tag)) (presence_of (g c) c.presence) (s c.of) (parts_in g s cs)

-- how many alternatives there are before the extension marker, and after it
abbrev pub alternative_counts : Choice → ItemCounts
alternative_counts c = record { roots = length c.roots.items; addeds = option_map (λ v. length v.items) c.addeds }

-- the alternative at a place, where one is there
abbrev pub standing : Choice → Place → Option Alternative
standing c (Root i) = slice_get c.roots.items i
standing c (Added i) = slice_get (behind c.addeds) i

-- the row of an object set that a root place is the index of
abbrev pub row_at : ObjectSet → Place → Option Row
row_at s (Root i) = slice_get s.rows.items i
row_at s (Added i) = None

-- alternatives, by the schemas of places
abbrev pub alternatives_in : (ℕ → Schema) → List Alternative → Parts
alternatives_in s [] = no_parts
alternatives_in s (a ∷ others) = part (leaf (tag_of a.tag)) Schemas.required (s a.of) (alternatives_in s others)

-- a choice, by the schemas of places
abbrev pub choice_in : (ℕ → Schema) → Choice → Schema
choice_in s c = Schemas.choice (alternatives_in s c.roots.items) (alternatives_in s (behind c.addeds))
    (is_extensible (alternative_counts c).addeds)

-- what takes a level; with none left it is cut off
abbrev pub one_level : ℕ → Schema → Schema
one_level zero s = Schemas.cut
one_level (suc n) s = s

-- what a type is to n levels, by the schemas of places with one level less; octets that contain a value are told apart
abbrev pub plain_in : List Kind → (ℕ → Schema) → ℕ → Kind → Schema
plain_in ts s n (SimpleKind k) = simple_schema k
plain_in ts s n Date = date_at n
plain_in ts s n (ListKind i c) = one_level n (Schemas.list (s i) (size_of (of_size c)) (is_size_marked (of_size c)))
plain_in ts s n (SetOf i c) = one_level n (Schemas.set_of (s i) (size_of (of_size c)) (is_size_marked (of_size c)))
plain_in ts s n (RecordKind r) = one_level n (Schemas.sequence listed (parts_in in_root s r.root.items)
    (is_some r.additions) (parts_in (grouped ts) s (behind r.additions)))
plain_in ts s n (ChoiceKind c) = one_level n (choice_in s c)
plain_in ts s n (Containing i) = Schemas.real
plain_in ts s n (OpenKind o) = Schemas.any

-- what is at a place; where nothing does it is REAL, which has no encoding
abbrev pub at_place : (Kind → Schema) → Option Kind → Schema
at_place f None = Schemas.real
at_place f (Some k) = f k

-- octets that contain a value take no level (X.682 11): what is at its place is taken to the same levels; octets
-- that contain such octets are taken as REAL
abbrev pub kind_in : List Kind → (ℕ → Schema) → ℕ → Kind → Schema
kind_in ts s n (Containing i) = Schemas.containing (at_place (plain_in ts s n) (slice_get ts i))
kind_in ts s n k = plain_in ts s n k

-- the schema of a place to a number of levels: the unfolding of the table
unfoldable pub schema_at : List Kind → ℕ → ℕ → Schema
schema_at ts i zero = at_place (kind_in ts (λ j. Schemas.cut) zero) (slice_get ts i)
schema_at ts i (suc n) = at_place (kind_in ts (λ j. schema_at ts j n) (suc n)) (slice_get ts i)

-- a type to a number of levels, where it isn't octets that contain a value
abbrev pub plain_at : List Kind → Kind → ℕ → Schema
plain_at ts k zero = plain_in ts (λ j. Schemas.cut) zero k
plain_at ts k (suc n) = plain_in ts (λ j. schema_at ts j n) (suc n) k

-- what is within octets that contain it, by its place
abbrev pub contained_at : List Kind → ℕ → ℕ → Schema
contained_at ts i n = at_place (λ k. plain_at ts k n) (slice_get ts i)

-- the components of a record to a number of levels, by which of them may be groups
abbrev pub parts_at : (Component → Bool) → List Kind → List Component → ℕ → Parts
parts_at g ts cs n = parts_in g (λ j. schema_at ts j n) cs

-- a choice to a number of levels of its alternatives
abbrev pub choice_of : List Kind → Choice → ℕ → Schema
choice_of ts c n = choice_in (λ j. schema_at ts j n) c

-- a record to a number of levels
abbrev pub record_schema : List Kind → Record → ℕ → Schema
record_schema ts r = record_at listed (parts_at in_root ts r.root.items) (is_some r.additions)
    (parts_at (grouped ts) ts (behind r.additions))

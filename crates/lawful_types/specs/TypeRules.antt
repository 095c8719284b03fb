-- The rules that a lawful type of a table keeps (ITU-T X.680), by what is at its place.
use Rattle.std.specs.Prelude.{ℕ, ◌+◌, ◌≤◌, max, ◌≡◌, Bool, true, false, ◌&&◌, nat_lt, List, ◌++◌, count_by, map}
use Rattle.std.specs.Prelude.{Option, Some, None, ℤ, slice_get}
use Rattle.rasn_types.specs.Values.{elements, no_values, same, Value}
use Rattle.rasn_constraints.specs.Constraints.{bounds_in, size_in}
use Rattle.rasn_constraints.specs.LawfulConstraints.{are_lawful_bounds, is_lawful_size}
use Rattle.rasn_constraints.specs.declared.constraints.Bounded.{Bounded}
use Rattle.rasn_constraints.specs.declared.constraints.Extensible.{Extensible}
use Rattle.rasn_schema.specs.Structures.{tag_of}
use Rattle.rasn_schema.specs.Forms.{named_bit_schema}
use Rattle.rasn_schema.specs.Lawful.{all_pass, are_distinct, if_bits, IsLawful, is_value, slot_passes}
use Rattle.rasn_schema.specs.Lists.{deepest}
use Rattle.rasn_schema.specs.Normal.{normal}
use Rattle.rasn_schema.specs.Schemas
use Rattle.rasn_dynamic.specs.declared.types.Alternative.{Alternative}
use Rattle.rasn_dynamic.specs.declared.types.Component.{Component}
use Rattle.rasn_dynamic.specs.declared.types.DefaultValue.{DefaultValue}
use Rattle.rasn_dynamic.specs.declared.types.DefaultValue.TheVariants.{NoElements}
use Rattle.rasn_dynamic.specs.declared.types.DefaultTree.{DefaultTree}
use Rattle.rasn_dynamic.specs.declared.types.Presence.{Presence}
use Rattle.rasn_dynamic.specs.declared.types.Presence.TheVariants.{Default}
use Rattle.rasn_dynamic.specs.declared.types.Kind.{Kind}
use Rattle.rasn_dynamic.specs.declared.types.Kind.TheVariants.{Simple as SimpleKind, List as ListKind, SetOf}
use Rattle.rasn_dynamic.specs.declared.types.Kind.TheVariants.{Record as RecordKind, Choice as ChoiceKind, Containing}
use Rattle.rasn_dynamic.specs.declared.types.Kind.TheVariants.{Open as OpenKind}
use Rattle.rasn_dynamic.specs.declared.types.Simple.{Simple}
use Rattle.rasn_dynamic.specs.declared.types.Simple.TheVariants.{BitString, Characters, Integer, NamedBits, OctetString}
use Rattle.rasn_dynamic.specs.declared.types.Simple.TheVariants.{Open}
use Rattle.per_laws.specs.Levels.{levels_of}
use Rattle.rasn_dynamic.specs.Defaults.{groups, same_slot, settled}
use Rattle.rasn_dynamic.specs.Types.{behind, default_value, is_not_required, of_size, presence_of, schema_at}
use Rattle.rasn_dynamic.specs.Types.{simple_schema, tree_value}
use Rattle.lawful_types.specs.declared.fault.Fault.{Fault}
use Rattle.lawful_types.specs.declared.fault.Reason.{Reason}
use Rattle.lawful_types.specs.declared.fault.Reason.TheVariants as Reasons

-- the bounds that an INTEGER states
abbrev pub bounds_stated : Kind → Option (Extensible (Bounded ℤ))
bounds_stated (SimpleKind (Integer c)) = Some c
bounds_stated k = None

-- X.680 51.4: the bounds of a number are in order, and not too far apart
abbrev pub keeps_bounds : Kind → Bool
keeps_bounds k = let b = bounds_in (bounds_stated k) in are_lawful_bounds b.low b.high

-- the size that a type states in which no other stands
abbrev pub size_stated_by : Simple → Option (Extensible (Bounded ℕ))
size_stated_by (OctetString c) = Some c
size_stated_by (BitString c) = Some c
size_stated_by (NamedBits c) = Some c
size_stated_by (Characters s) = Some s.size
size_stated_by k = None

-- the size that a type states
abbrev pub size_stated : Kind → Option (Extensible (Bounded ℕ))
size_stated (SimpleKind k) = size_stated_by k
size_stated (ListKind i c) = Some c
size_stated (SetOf i c) = Some c
size_stated k = None

-- X.680 51.5: the bounds of a size are in order
abbrev pub keeps_size : Kind → Bool
keeps_size k = let z = size_in (size_stated k) in is_lawful_size z.least z.most

-- X.691 19.2: fewer than 65536 root components of a SEQUENCE have a presence bit (this project's limit)
abbrev pub keeps_presence_bits : Kind → Bool
keeps_presence_bits (RecordKind r) = nat_lt (count_by (λ c. is_not_required c.presence) r.root.items) 65536
keeps_presence_bits k = true

-- the tags of alternatives
abbrev pub tags_of : List Alternative → List Schemas.Tag
tags_of cs = map (λ a. tag_of a.tag) cs

-- X.680 29.3: the alternatives of a CHOICE have different tags
abbrev pub keeps_tags : Kind → Bool
keeps_tags (ChoiceKind c) = are_distinct (tags_of c.roots.items ++ tags_of (behind c.addeds))
keeps_tags k = true

-- X.680 22.7: whether a default is named bits in normal form: without zero bits at their end but those that their size
-- asks for
abbrev pub is_default_of_named : Extensible (Bounded ℕ) → DefaultValue → Bool
is_default_of_named c d = let v = default_value d in if_bits v && same (normal (named_bit_schema (of_size c)) v) v

-- whether a default is a value of a type in which no other stands, and in normal form
abbrev pub is_default_of_simple : DefaultValue → Simple → Bool
is_default_of_simple d (NamedBits c) = is_default_of_named c d
is_default_of_simple d k = is_value (simple_schema k) (default_value d)

-- whether a default is a value of a type that isn't octets that contain a value; of other than simple types the empty
-- list is the one default
abbrev pub is_default_of_plain : DefaultValue → Kind → Bool
is_default_of_plain d (SimpleKind k) = is_default_of_simple d k
is_default_of_plain NoElements (ListKind i c) = true
is_default_of_plain d (OpenKind s) = is_default_of_simple d Open
is_default_of_plain d k = false

-- whether a default is a value of what octets contain
abbrev pub is_default_within : DefaultValue → Option Kind → Bool
is_default_within d None = false
is_default_within d (Some k) = is_default_of_plain d k

-- whether a default is a value of what is at a place, if anything does
abbrev pub is_default_of : List Kind → DefaultValue → Option Kind → Bool
is_default_of ts d None = false
is_default_of ts d (Some (Containing i)) = is_default_within d (slice_get ts i)
is_default_of ts d (Some k) = is_default_of_plain d k

-- whether a value is one of a schema, and in normal form
abbrev pub is_right : Schemas.Schema → Value → Bool
is_right s v = is_value s v && same (normal s v) v

-- the place of the elements' type, where a type is a list
abbrev pub list_of : Option Kind → Option ℕ
list_of (Some (ListKind i c)) = Some i
list_of k = None

-- whether a part of a record, absent or there, is one of its component to so many levels, and in normal form
abbrev pub is_right_slot : Bool → List Kind → ℕ → Component → Option Value → Bool
is_right_slot b ts n c o =
    let g = groups b ts in slot_passes (presence_of (g c) c.presence) (is_value (schema_at ts c.of n)) o
    && same_slot (settled g (λ j. schema_at ts j n) (Some c) o) o

-- how many levels a default takes
abbrev pub tree_levels : DefaultTree → ℕ
tree_levels d = levels_of (tree_value d)

-- X.680 25.9: whether a default is a value of the type at a place, and in normal form: to as many levels as it takes
-- and two more, so that it meets no branch that is cut off
abbrev pub is_default_tree_of : List Kind → ℕ → DefaultTree → Bool
is_default_tree_of ts i d = is_right (schema_at ts i (tree_levels d + 2)) (tree_value d)

-- X.680 25.9: whether a component's default, where it has one, is a value of its type
abbrev pub has_lawful_default : List Kind → Component → Bool
has_lawful_default ts c = presence_is_lawful ts c.of c.presence
  where
    presence_is_lawful : List Kind → ℕ → Presence → Bool
    presence_is_lawful ts i (Default d) = is_default_tree_of ts i d
    presence_is_lawful ts i p = true

-- X.680 25.9: the defaults of a SEQUENCE are values of their components' types
abbrev pub keeps_defaults : List Kind → Kind → Bool
keeps_defaults ts (RecordKind r) =
    all_pass (has_lawful_default ts) r.root.items && all_pass (has_lawful_default ts) (behind r.additions)
keeps_defaults ts k = true

-- whether a type keeps the rule that a reason is about
abbrev pub keeps : Reason → List Kind → Kind → Bool
keeps Reasons.Bounds ts k = keeps_bounds k
keeps Reasons.Size ts k = keeps_size k
keeps Reasons.PresenceBits ts k = keeps_presence_bits k
keeps Reasons.Tags ts k = keeps_tags k
keeps Reasons.Default ts k = keeps_defaults ts k

-- whether a type keeps each rule
abbrev pub is_lawful_kind : List Kind → Kind → Bool
is_lawful_kind ts k =
    keeps_bounds k && (keeps_size k && (keeps_presence_bits k && (keeps_tags k && keeps_defaults ts k)))

-- how many levels a default takes, of which one without elements takes none
abbrev pub held_levels : Value → ℕ
held_levels (elements no_values) = 0
held_levels v = levels_of v

-- how many levels the default of a component takes, where it has one
abbrev pub default_levels : Presence → ℕ
default_levels (Default d) = held_levels (tree_value d)
default_levels p = 0

-- how many levels the deepest default of components takes
abbrev pub deepest_of : List Component → ℕ
deepest_of cs = deepest (λ c. default_levels c.presence) cs

-- how many levels the deepest default of a SEQUENCE takes
abbrev pub deepest_default : Kind → ℕ
deepest_default (RecordKind r) = max (deepest_of r.root.items) (deepest_of (behind r.additions))
deepest_default k = 0

-- a type of a table breaks the rule that a fault names, so that its schema isn't lawful to three levels more than its
-- defaults take (a DATE within a record is one from three on)
pub record IsFaultOf (ts : List Kind) (f : Fault) : Type 0 where
  pub kind : Kind
  pub stands : slice_get ts f.place ≡ Some kind
  pub breaks : keeps f.reason ts kind ≡ false
  pub unlawful : (n : ℕ) → deepest_default kind + 3 ≤ n → IsLawful (schema_at ts f.place n) → ⊥

-- The JSON of a value by a table of types (ITU-T X.697).
use Rattle.std.specs.Prelude.{ℕ, Bool, true, false, if◌then◌else◌, ◌==◌, List, [], ◌∷◌, ◌++◌, length, map, Option, Some}
use Rattle.std.specs.Prelude.{None, option_map, slice_get, string_bytes}
use Rattle.rasn_types.specs.AllOf.{all_of}
use Rattle.rasn_types.specs.Values
use Rattle.rasn_types.specs.Values.{same}
use Rattle.rasn_schema.specs.Normal.{normal}
use Rattle.rasn_dynamic.specs.Depths.{depth}
use Rattle.rasn_dynamic.specs.Types.{behind, row_at, schema_at, standing, tree_value, within}
use Rattle.rasn_dynamic.specs.Values.{slot_step}
use Rattle.rasn_dynamic.specs.declared.types.Alternative.{Alternative}
use Rattle.rasn_dynamic.specs.declared.types.Component.{Component}
use Rattle.rasn_dynamic.specs.declared.types.Kind.{Kind}
use Rattle.rasn_dynamic.specs.declared.types.Kind.TheVariants.{Simple, Date, List as ListKind, SetOf}
use Rattle.rasn_dynamic.specs.declared.types.Kind.TheVariants.{Record as RecordKind, Choice, Open}
use Rattle.rasn_dynamic.specs.declared.types.Presence.{Presence}
use Rattle.rasn_dynamic.specs.declared.types.Presence.TheVariants.{Optional, Group, Default}
use Rattle.rasn_dynamic.specs.declared.types.Record.{Record}
use Rattle.rasn_dynamic.specs.declared.types.Row.{Row}
use Rattle.rasn_dynamic.specs.declared.values.Value.{Value}
use Rattle.rasn_dynamic.specs.declared.values.Value.TheOpen.{Value-F, Octets, Elements, Bag, Fields}
use Rattle.rasn_dynamic.specs.declared.values.Value.TheOpen.{Alternative as AlternativeF, Date as DateF}
use Rattle.rasn_dynamic.specs.declared.values.Value.TheFolds.{fold-Value, map-Value}
use Rattle.json.specs.Json.{Json, array, object, Members, no_members, member}
use Rattle.json.specs.Value.{items_of}
use Rattle.rasn_dynamic_jer.specs.Days.{date_json}
use Rattle.rasn_dynamic_jer.specs.Leaves.{below, digits_json, simple_json}

-- a member of an object: its name and its value
abbrev pub Member : Type 0
Member = List ℕ × Json

-- members in their order
abbrev pub members_from : List Member → Members
members_from [] = no_members
members_from (m ∷ ms) = member m.0 m.1 (members_from ms)

-- what is known of a value, or of none: the value of the grammar that it is, where it is there; its JSON within so many
-- levels of arrays and objects, by what its type is; and of a record its members within so many, by its components
pub record Known : Type 0 where
  pub slot : Option Values.Value
  pub json : ℕ → Option Kind → Option Json
  pub members : ℕ → Record → Option (List Member)

-- what the type at a place is, or contains
abbrev pub kind_within : List Kind → ℕ → Option Kind
kind_within ts i = within ts (slice_get ts i)

-- X.697: the member of a name, where there is JSON for it
abbrev pub named : List ℕ → Option Json → Option (List Member)
named name j = option_map (λ j. (name, j) ∷ []) j

-- X.691 19.5: whether a component has a default, which a value's normal form is; this is one at all levels that hold it
abbrev pub is_default_of : List Kind → Presence → ℕ → Values.Value → Bool
is_default_of ts (Default d) i v = same (normal (schema_at ts i (depth v)) v) (tree_value d)
is_default_of ts p i v = false

abbrev pub is_default : List Kind → Component → Values.Value → Bool
is_default ts c v = is_default_of ts c.presence c.of v

-- X.680 25.6: whether a component may be absent; a value of a record has one with a default always
abbrev pub is_optional : Presence → Bool
is_optional Optional = true
is_optional Group = true
is_optional p = false

-- X.680 25.1: the record of a component's type, where the component is a group
abbrev pub record_of_group : Presence → Option Kind → Option Record
record_of_group Group (Some (RecordKind r)) = if length (behind r.additions) == 0 then Some r else None
record_of_group p k = None

abbrev pub group_in : List Kind → Component → Option Record
group_in ts c = record_of_group c.presence (slice_get ts c.of)

-- the record of a component's type, where the component is a group; among those of a root none is
abbrev pub group_among : List Kind → Bool → Component → Option Record
group_among ts false c = None
group_among ts true c = group_in ts c

-- the members of a component that is there: those of a group, or one
abbrev pub members_there : List Kind → ℕ → Option Record → Component → Known → Option (List Member)
members_there ts n (Some r) c x = x.members n r
members_there ts n None c x = named (string_bytes c.name) (x.json n (kind_within ts c.of))

-- X.697: the members of a component: none where it is absent, or its value the default
abbrev pub members_of : List Kind → ℕ → Option Record → Component → Known → Option Values.Value → Option (List Member)
members_of ts n g c x None = if is_optional c.presence then Some [] else None
members_of ts n g c x (Some v) = if is_default ts c v then Some [] else members_there ts n g c x

abbrev pub component_members : List Kind → Bool → ℕ → Component → Known → Option (List Member)
component_members ts are_added n c x = members_of ts n (group_among ts are_added c) c x x.slot

-- some members before others, where both are there
abbrev pub both : Option (List Member) → Option (List Member) → Option (List Member)
both None ns = None
both (Some ms) None = None
both (Some ms) (Some ns) = Some (ms ++ ns)

-- the members of components, of which there are as many as values
abbrev pub list_members : List Kind → Bool → ℕ → List Component → List Known → Option (List Member)
list_members ts are_added n [] [] = Some []
list_members ts are_added n (c ∷ cs) (x ∷ xs) =
    both (component_members ts are_added n c x) (list_members ts are_added n cs xs)
list_members ts are_added n cs xs = None

-- X.697: the members of a record: those of its root components, and those of its additions
abbrev pub record_members : List Kind → ℕ → Record → List Known → List Known → Option (List Member)
record_members ts n r xs ys =
    both (list_members ts false n r.root.items xs) (list_members ts true n (behind r.additions) ys)

-- an object of one member: a name, and a value of the type at a place
abbrev pub one_member : List Kind → ℕ → List ℕ → ℕ → Known → Option Json
one_member ts n name i x = option_map (λ ms. object (members_from ms)) (named name (x.json n (kind_within ts i)))

-- X.697: a choice, by the name of the alternative
abbrev pub alternative_json : List Kind → ℕ → Option Alternative → Known → Option Json
alternative_json ts n None x = None
alternative_json ts n (Some a) x = one_member ts n (string_bytes a.name) a.of x

-- an open type whose value was read, by the name of its type (this project's choice)
abbrev pub row_json : List Kind → ℕ → Option Row → Known → Option Json
row_json ts n None x = None
row_json ts n (Some r) x = one_member ts n (string_bytes r.name) r.of x

-- the JSON of each of some values of a type
abbrev pub all_json : List Kind → ℕ → ℕ → List Known → Option (List Json)
all_json ts n i xs = all_of (λ x. x.json n (kind_within ts i)) xs

-- X.697: an array of values of a type
abbrev pub array_json : List Kind → ℕ → ℕ → List Known → Option Json
array_json ts n i xs = option_map (λ js. array (items_of js)) (all_json ts n i xs)

-- X.697: the JSON of a value by what its type is; none of a value of another kind
abbrev pub kind_json : List Kind → ℕ → Option Kind → Value-F Known → Option Json
kind_json ts n (Some (Simple k)) x = simple_json n k x
kind_json ts n (Some Date) (DateF d) = date_json d
kind_json ts n (Some (ListKind i c)) (Elements v) = below n (λ m. array_json ts m i v.items)
kind_json ts n (Some (SetOf i c)) (Bag v) = below n (λ m. array_json ts m i v.items)
kind_json ts n (Some (RecordKind r)) (Fields v w) =
    below n (λ m. option_map (λ ms. object (members_from ms)) (record_members ts m r v.items w.items))
kind_json ts n (Some (Choice c)) (AlternativeF p v) = below n (λ m. alternative_json ts m (standing c p) v.value)
kind_json ts n (Some (Open s)) (Octets os) = digits_json os
kind_json ts n (Some (Open s)) (AlternativeF p v) = below n (λ m. row_json ts m (row_at s p) v.value)
kind_json ts n k x = None

-- the members of a value that is a record
abbrev pub fields_members : List Kind → ℕ → Record → Value-F Known → Option (List Member)
fields_members ts n r (Fields v w) = record_members ts n r v.items w.items
fields_members ts n r x = None

-- one level of a value, which has what is known of its parts in their place
abbrev pub known_step : List Kind → Value-F Known → Known
known_step ts x = record {
  slot = slot_step (map-Value Known (Option Values.Value) (λ k. k.slot) x);
  json = λ n k. kind_json ts n k x;
  members = λ n r. fields_members ts n r x;
}

-- what is known of a value
abbrev pub known : List Kind → Value → Known
known ts = fold-Value Known (known_step ts)

-- the JSON of a value by what its type is, within so many levels of arrays and objects
abbrev pub json_by : List Kind → ℕ → Option Kind → Value → Option Json
json_by ts n k v = (known ts v).json n k

-- the JSON of a value by the type at a place, within so many levels of arrays and objects
abbrev pub json_at : List Kind → ℕ → ℕ → Value → Option Json
json_at ts n i v = json_by ts n (kind_within ts i) v

-- the JSON of each of some values of the type at a place
abbrev pub values_json : List Kind → ℕ → ℕ → List Value → Option (List Json)
values_json ts n i vs = all_json ts n i (map (known ts) vs)

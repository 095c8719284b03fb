-- The normal form of a value by a table of types, with the values that its open types were read as.
use Rattle.std.specs.Prelude.{ℕ, zero, suc, Bool, true, false, ◌&&◌, if◌then◌else◌, List, [], ◌∷◌, Option, Some, None}
use Rattle.std.specs.Prelude.{option_map, position, slice_get, string_bytes}
use Rattle.std.specs.Option.{option_and_then, unwrap_or}
use Rattle.std.specs.Str.{bytes_eq}
use Rattle.rasn_types.specs.Values.{Value, alternative, fields, root, slots}
use Rattle.rasn_schema.specs.Normal.{normal, over_alternative, over_bag, over_elements, over_fields}
use Rattle.rasn_schema.specs.Structures.{record_value}
use Rattle.rasn_dynamic.specs.Types.{behind, simple_schema, tree_value}
use Rattle.rasn_dynamic.specs.declared.types.Alternative.{Alternative}
use Rattle.rasn_dynamic.specs.declared.types.Choice.{Choice}
use Rattle.rasn_dynamic.specs.declared.types.Component.{Component}
use Rattle.rasn_dynamic.specs.declared.types.Kind.{Kind}
use Rattle.rasn_dynamic.specs.declared.types.Kind.TheVariants.{Simple, List as ListKind, SetOf}
use Rattle.rasn_dynamic.specs.declared.types.Kind.TheVariants.{Record as RecordKind, Choice as ChoiceKind, Open}
use Rattle.rasn_dynamic.specs.declared.types.ObjectSet.{ObjectSet}
use Rattle.rasn_dynamic.specs.declared.types.Presence.{Presence}
use Rattle.rasn_dynamic.specs.declared.types.Presence.TheVariants.{Default}
use Rattle.rasn_dynamic.specs.declared.types.Record.{Record}
use Rattle.rasn_dynamic.specs.declared.types.Row.{Row}
use Rattle.rasn_dynamic_jer.specs.Shown.{group_in, is_default, is_default_of, kind_within}

-- the value of a component that is there: its default, where its normal form is that, and else its normal form
abbrev pub part_normal : List Kind → (ℕ → Value → Value) → ℕ → Presence → Value → Value
part_normal ts f i (Default d) v = if is_default_of ts (Default d) i v then tree_value d else f i v
part_normal ts f i p v = f i v

-- what stands for a component
abbrev pub slot_normal : List Kind → (ℕ → Value → Value) → Component → Option Value → Option Value
slot_normal ts f c s = option_map (part_normal ts f c.of c.presence) s

abbrev pub slots_normal : List Kind → (ℕ → Value → Value) → List Component → List (Option Value) → List (Option Value)
slots_normal ts f [] ss = ss
slots_normal ts f (c ∷ cs) [] = []
slots_normal ts f (c ∷ cs) (s ∷ ss) = slot_normal ts f c s ∷ slots_normal ts f cs ss

-- X.691 19.9: whether a component holds nothing: it is absent, or its default
abbrev pub is_idle : List Kind → Component → Option Value → Bool
is_idle ts c None = true
is_idle ts c (Some v) = is_default ts c v

abbrev pub are_idle : List Kind → List Component → List (Option Value) → Bool
are_idle ts [] ss = true
are_idle ts (c ∷ cs) [] = true
are_idle ts (c ∷ cs) (s ∷ ss) = is_idle ts c s && are_idle ts cs ss

-- X.691 19.9: an addition group, which is absent where its components hold nothing
abbrev pub group_normal : List Kind → (ℕ → Value → Value) → Record → Value → Option Value
group_normal ts f g (fields r x) =
    if are_idle ts g.root.items (slots r) then None
    else Some (record_value (slots_normal ts f g.root.items (slots r)) (slots x))
group_normal ts f g v = Some v

-- what stands for an addition, which may be a group
abbrev pub addition_normal : List Kind → (ℕ → Value → Value) → Option Record → Component → Option Value → Option Value
addition_normal ts f None c s = slot_normal ts f c s
addition_normal ts f (Some g) c s = option_and_then (group_normal ts f g) s

abbrev pub additions_normal : List Kind → (ℕ → Value → Value) → List Component → List (Option Value)
    → List (Option Value)
additions_normal ts f [] ss = ss
additions_normal ts f (c ∷ cs) [] = []
additions_normal ts f (c ∷ cs) (s ∷ ss) = addition_normal ts f (group_in ts c) c s ∷ additions_normal ts f cs ss

-- a record
abbrev pub record_normal : List Kind → (ℕ → Value → Value) → Record → Value → Value
record_normal ts f r = over_fields (slots_normal ts f r.root.items) (additions_normal ts f (behind r.additions))

-- the value of an alternative
abbrev pub chosen_normal : (ℕ → Value → Value) → Option Alternative → Value → Value
chosen_normal f None v = v
chosen_normal f (Some a) v = f a.of v

-- a choice
abbrev pub choice_normal : (ℕ → Value → Value) → Choice → Value → Value
choice_normal f c = over_alternative (λ i v. chosen_normal f (slice_get c.roots.items i) v)
    (λ i v. chosen_normal f (slice_get (behind c.addeds) i) v)

-- the index of the first row with a name
abbrev pub row_index : ObjectSet → List ℕ → Option ℕ
row_index s n = position (λ r. bytes_eq (string_bytes r.name) n) s.rows.items

-- the value of an open type, by the first row with the name of its own
abbrev pub row_normal : (ℕ → Value → Value) → ObjectSet → ℕ → Option Row → Value → Value
row_normal f s i None v = alternative root i v
row_normal f s i (Some r) v = alternative root (unwrap_or (row_index s (string_bytes r.name)) i) (f r.of v)

-- an open type: its octets, or the value that was read from them
abbrev pub open_normal : (ℕ → Value → Value) → ObjectSet → Value → Value
open_normal f s (alternative root i v) = row_normal f s i (slice_get s.rows.items i) v
open_normal f s v = v

-- by what a type is, by the normal forms of values of the types at places
abbrev pub normal_in : List Kind → (ℕ → Value → Value) → Option Kind → Value → Value
normal_in ts f (Some (Simple k)) = normal (simple_schema k)
normal_in ts f (Some (ListKind i c)) = over_elements (f i)
normal_in ts f (Some (SetOf i c)) = over_bag (f i)
normal_in ts f (Some (RecordKind r)) = record_normal ts f r
normal_in ts f (Some (ChoiceKind c)) = choice_normal f c
normal_in ts f (Some (Open s)) = open_normal f s
normal_in ts f k = λ v. v

-- by what a type is, within so many levels of arrays and objects of its JSON
unfoldable pub normal_by : List Kind → ℕ → Option Kind → Value → Value
normal_by ts zero k = normal_in ts (λ i v. v) k
normal_by ts (suc n) k = normal_in ts (λ i v. normal_by ts n (kind_within ts i) v) k

-- by the type at a place
abbrev pub normal_at : List Kind → ℕ → ℕ → Value → Value
normal_at ts n i v = normal_by ts n (kind_within ts i) v

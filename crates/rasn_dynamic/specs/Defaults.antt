-- What normal forms of values by a table are made of, one level down.
use Rattle.std.specs.Prelude.{ℕ, Bool, true, false, ◌&&◌, List, [], ◌∷◌, length, Option, Some, None, slice_get}
use Rattle.rasn_types.specs.Values.{Value, same}
use Rattle.rasn_schema.specs.Normal.{normal, settle}
use Rattle.rasn_schema.specs.Schemas.{Schema}
use Rattle.rasn_schema.specs.declared.items.Place.{Place}
use Rattle.rasn_dynamic.specs.declared.types.Alternative.{Alternative}
use Rattle.rasn_dynamic.specs.declared.types.Component.{Component}
use Rattle.rasn_dynamic.specs.declared.types.Kind.{Kind}
use Rattle.rasn_dynamic.specs.declared.types.Kind.TheVariants.{List as ListKind, Record as RecordKind}
use Rattle.rasn_dynamic.specs.declared.types.Kind.TheVariants.{Choice as ChoiceKind}
use Rattle.rasn_dynamic.specs.declared.types.Presence.{Presence}
use Rattle.rasn_dynamic.specs.declared.types.Presence.TheVariants.{Group}
use Rattle.rasn_dynamic.specs.declared.types.Record.{Record}
use Rattle.rasn_dynamic.specs.Types.{behind, grouped, in_root, presence_of, standing, within}

-- which components may be groups: only those after an extension marker
abbrev pub groups : Bool → List Kind → Component → Bool
groups true ts = grouped ts
groups false ts = in_root

-- the place of a list's elements; of another type that of none
abbrev pub elements_of : List Kind → Option Kind → ℕ
elements_of ts (Some (ListKind i c)) = i
elements_of ts k = length ts

-- the place of the elements of the list that is at a place, or is contained there
abbrev pub element_place : List Kind → ℕ → ℕ
element_place ts i = elements_of ts (within ts (slice_get ts i))

-- the root components and the additions of a record; another type has none
abbrev pub root_in : Option Kind → List Component
root_in (Some (RecordKind r)) = r.root.items
root_in k = []

abbrev pub after_in : Option Kind → List Component
after_in (Some (RecordKind r)) = behind r.additions
after_in k = []

-- the components of the record at a place, or contained there: those after the extension marker or those before it
abbrev pub components_at : List Kind → ℕ → Bool → List Component
components_at ts i true = after_in (within ts (slice_get ts i))
components_at ts i false = root_in (within ts (slice_get ts i))

-- the place of an alternative's type, of none where no alternative is
abbrev pub place_in : List Kind → Option Alternative → ℕ
place_in ts (Some a) = a.of
place_in ts None = length ts

-- the place of the type of an alternative of a choice; of another type that of none
abbrev pub chosen_in : List Kind → Option Kind → Place → ℕ
chosen_in ts (Some (ChoiceKind c)) p = place_in ts (standing c p)
chosen_in ts k p = length ts

-- the place of the type of an alternative of the choice at a place, or contained there
abbrev pub chosen_place : List Kind → ℕ → Place → ℕ
chosen_place ts i p = chosen_in ts (within ts (slice_get ts i)) p

-- the record that is at a place itself
abbrev pub record_of : Option Kind → Option Record
record_of (Some (RecordKind r)) = Some r
record_of k = None

-- the record of a component's type, where the component is an addition group
abbrev pub group_in : Presence → Option Kind → Option Record
group_in Group k = record_of k
group_in p k = None

abbrev pub group_of : List Kind → Bool → Component → Option Record
group_of ts true c = group_in c.presence (slice_get ts c.of)
group_of ts false c = None

-- what becomes of a part of a record, by its component and the schemas of places; it stays where there is none
abbrev pub settled : (Component → Bool) → (ℕ → Schema) → Option Component → Option Value → Option Value
settled g s None o = o
settled g s (Some c) None = None
settled g s (Some c) (Some v) = settle (presence_of (g c) c.presence) (s c.of) (normal (s c.of) v)

-- whether two parts of a record are one, each absent or there
abbrev pub same_slot : Option Value → Option Value → Bool
same_slot None None = true
same_slot None (Some w) = false
same_slot (Some v) None = false
same_slot (Some v) (Some w) = same v w

-- whether two lists are as long, and their items pass a test, one for one
abbrev pub all_pairs : {A B : Type 0} → (A → B → Bool) → List A → List B → Bool
all_pairs f [] [] = true
all_pairs f [] (y ∷ ys) = false
all_pairs f (x ∷ xs) [] = false
all_pairs f (x ∷ xs) (y ∷ ys) = f x y && all_pairs f xs ys

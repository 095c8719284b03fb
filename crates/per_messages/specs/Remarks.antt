-- Where values depart from the object sets of their open types (ITU-T X.681, 14; X.682, 10).
use Rattle.std.specs.Prelude.{ℕ, zero, suc, ◌≡◌, ◌+◌, ◌==◌, ◌&&◌, not, if◌then◌else◌, Bool, true, false, List, []}
use Rattle.std.specs.Prelude.{◌∷◌, ◌++◌, length, map, take, find, decimal, Option, Some, None, slice_get}
use Rattle.std.specs.Prelude.{string_bytes}
use Rattle.std.specs.List.{list_any}
use Rattle.std.specs.Option.{unwrap_or}
use Rattle.rasn_types.specs.Values.{same}
use Rattle.rasn_schema.specs.Normal.{normal}
use Rattle.rasn_schema.specs.declared.items.Place.{Place}
use Rattle.rasn_dynamic.specs.Types.{behind, default_value, row_at, schema_at, standing, within}
use Rattle.rasn_dynamic.specs.Values.{value_of}
use Rattle.rasn_dynamic.specs.declared.types.Alternative.{Alternative as ChoiceAlternative}
use Rattle.rasn_dynamic.specs.declared.types.Choice.{Choice}
use Rattle.rasn_dynamic.specs.declared.types.Component.{Component}
use Rattle.rasn_dynamic.specs.declared.types.DefaultValue.{DefaultValue}
use Rattle.rasn_dynamic.specs.declared.types.ElementPresence.{ElementPresence}
use Rattle.rasn_dynamic.specs.declared.types.ElementPresence.TheVariants.{Mandatory}
use Rattle.rasn_dynamic.specs.declared.types.Kind.{Kind}
use Rattle.rasn_dynamic.specs.declared.types.Kind.TheVariants.{List as ListKind, SetOf, Record as RecordKind}
use Rattle.rasn_dynamic.specs.declared.types.Kind.TheVariants.{Choice as ChoiceKind}
use Rattle.rasn_dynamic.specs.declared.types.ObjectSet.{ObjectSet}
use Rattle.rasn_dynamic.specs.declared.types.Record.{Record}
use Rattle.rasn_dynamic.specs.declared.types.Row.{Row}
use Rattle.rasn_dynamic.specs.declared.values.Value.{Value}
use Rattle.rasn_dynamic.specs.declared.values.Value.TheOpen.{Value-F, Elements, Bag, Fields, Alternative}
use Rattle.rasn_dynamic.specs.declared.values.Value.TheViews.{out-Value}
use Rattle.per_dynamic.specs.OpenTypes.{set_of}
use Rattle.per_messages.specs.Paths.{onward}
use Rattle.per_messages.specs.declared.remarks.Remark.{Remark}
use Rattle.per_messages.specs.declared.remarks.RemarkKind.{RemarkKind}
use Rattle.per_messages.specs.declared.remarks.RemarkKind.TheVariants.{Missing, Repeated, Criticality}

-- what departs, the name of the type in the object set, and the path to where it does
pub record Told : Type 0 where
  pub kind : RemarkKind
  pub name : List ℕ
  pub path : List ℕ

abbrev pub told : Remark → Told
told r = record { kind = r.kind; name = string_bytes r.name; path = string_bytes r.path }

-- remarks are those before and these after them
abbrev pub Adds : List Remark → List Remark → List Told → Type 0
Adds before after more = map told after ≡ map told before ++ more

abbrev pub one_remark : RemarkKind → List ℕ → List ℕ → List Told
one_remark kind name path = record { kind = kind; name = name; path = path } ∷ []

-- what is told of each of some things, whose places begin with this one
abbrev pub each_from : {A : Type 0} → (ℕ → A → List Told) → ℕ → List A → List Told
each_from f k [] = []
each_from f k (x ∷ xs) = f k x ++ each_from f (k + 1) xs

abbrev pub each_of : {A : Type 0} → (ℕ → A → List Told) → List A → List Told
each_of f = each_from f 0

-- X.680 15: the path to a part by its identifier, where it has one
abbrev pub joined : List ℕ → List ℕ → List ℕ
joined path step = if length step == 0 then path else onward path step

-- the path to an element of a list: its number is from 1 on
abbrev pub element_path : List ℕ → ℕ → List ℕ
element_path path k = joined path (decimal (k + 1))

-- the elements of a SEQUENCE OF or a SET OF
abbrev pub elements_in : Value-F Value → Option (List Value)
elements_in (Elements v) = Some v.items
elements_in (Bag v) = Some v.items
elements_in x = None

abbrev pub elements_of : Value → Option (List Value)
elements_of x = elements_in (out-Value x)

-- the values of a record's root components
abbrev pub root_in : Value-F Value → List Value
root_in (Fields v w) = v.items
root_in x = []

abbrev pub root_values : Value → List Value
root_values x = root_in (out-Value x)

-- the values of its additions
abbrev pub added_in : Value-F Value → List Value
added_in (Fields v w) = w.items
added_in x = []

abbrev pub added_values : Value → List Value
added_values x = added_in (out-Value x)

-- the place and the value of an alternative, or of an open type that octets were read as
abbrev pub chosen_in : Value-F Value → Option (Place × Value)
chosen_in (Alternative p b) = Some (p, b.value)
chosen_in x = None

abbrev pub chosen_of : Value → Option (Place × Value)
chosen_of x = chosen_in (out-Value x)

-- whether a component has a value, where both the component and its value are there
abbrev pub is_told : List Kind → Option Component → Option Value → DefaultValue → Option Bool
is_told ts None x d = None
is_told ts (Some c) None d = None
is_told ts (Some c) (Some x) d = Some (same (normal (schema_at ts c.of 0) (value_of x)) (default_value d))

-- whether the component at an index has a value
abbrev pub holds : List Kind → List Component → List Value → ℕ → DefaultValue → Bool
holds ts cs xs i d = unwrap_or (is_told ts (slice_get cs i) (slice_get xs i) d) false

-- whether a record, by its root components, tells a row: its chooser has the row's value
abbrev pub tells : List Kind → List Component → ℕ → Row → Value → Bool
tells ts cs i r x = holds ts cs (root_values x) i r.value

-- an element where there is one already
abbrev pub again_at : Bool → Bool → List ℕ → List ℕ → ℕ → List Told
again_at was_there is_one name path k =
    if was_there && is_one then one_remark Repeated name (element_path path k) else []

-- each record that tells a row which one before it tells
abbrev pub of_again : (Value → Bool) → List ℕ → List ℕ → List Value → ℕ → Value → List Told
of_again is_one name path xs k x = again_at (list_any is_one (take k xs)) (is_one x) name path k

abbrev pub of_repeated : (Value → Bool) → List ℕ → List ℕ → List Value → List Told
of_repeated is_one name path xs = each_of (of_again is_one name path xs) xs

-- whether an element of a type has to be there
abbrev pub is_mandatory : Option ElementPresence → Bool
is_mandatory (Some Mandatory) = true
is_mandatory p = false

-- none of some records tells a row that has to be there
abbrev pub of_missing : (Value → Bool) → Row → List ℕ → List Value → List Told
of_missing is_one r path xs =
    if is_mandatory r.presence && not (list_any is_one xs) then one_remark Missing (string_bytes r.name) path else []

abbrev pub of_row : List Kind → List ℕ → List Component → List Value → ℕ → Row → List Told
of_row ts path cs xs i r =
    of_repeated (tells ts cs i r) (string_bytes r.name) path xs ++ of_missing (tells ts cs i r) r path xs

-- what is told of records together: by the rows of an object set, of each open type of their root components
abbrev pub of_rows : List Kind → List ℕ → List Component → List Value → ℕ → List Row → List Told
of_rows ts path cs xs i rs = each_of (λ k r. of_row ts path cs xs i r) rs

abbrev pub of_set : List Kind → List ℕ → List Component → List Value → Option ObjectSet → List Told
of_set ts path cs xs None = []
of_set ts path cs xs (Some s) = of_rows ts path cs xs s.chooser s.rows.items

abbrev pub of_records : List Kind → List ℕ → List Component → List Value → List Told
of_records ts path cs xs = each_of (λ k c. of_set ts path cs xs (set_of (slice_get ts c.of))) cs

-- the same of the elements of a list, by what their type is
abbrev pub of_all : List Kind → List ℕ → Option Kind → List Value → List Told
of_all ts path (Some (RecordKind r)) xs = of_records ts path r.root.items xs
of_all ts path k xs = []

-- the row that a record tells
abbrev pub row_held : List Kind → List Component → List Value → ObjectSet → Option Row
row_held ts cs xs s = find (λ r. holds ts cs xs s.chooser r.value) s.rows.items

-- whether a record's criticality isn't the one of a row, where both are there
abbrev pub departs : List Kind → List Component → List Value → Option ℕ → Option DefaultValue → Bool
departs ts cs xs None d = false
departs ts cs xs (Some i) None = false
departs ts cs xs (Some i) (Some d) = not (unwrap_or (is_told ts (slice_get cs i) (slice_get xs i) d) true)

abbrev pub of_criticality : List Kind → List ℕ → List Component → List Value → ObjectSet → Option Row → List Told
of_criticality ts path cs xs s None = []
of_criticality ts path cs xs s (Some r) =
    if departs ts cs xs s.criticality r.criticality then one_remark Criticality (string_bytes r.name) path else []

-- what is told of a value by a path to it and the place of its type
abbrev pub Telling : Type 0
Telling = List ℕ → ℕ → Value → List Told

-- the value of an open type, by the row of its place
abbrev pub of_row_value : Telling → List ℕ → Option Row → Value → List Told
of_row_value f path None x = []
of_row_value f path (Some r) x = f path r.of x

abbrev pub of_open : Telling → List ℕ → ObjectSet → Option (Place × Value) → List Told
of_open f path s None = []
of_open f path s (Some c) = of_row_value f path (row_at s c.0) c.1

-- a CHOICE, by its alternative
abbrev pub of_alternative : Telling → List ℕ → Option ChoiceAlternative → Value → List Told
of_alternative f path None x = []
of_alternative f path (Some a) x = f (joined path (string_bytes a.name)) a.of x

abbrev pub of_choice : Telling → List ℕ → Choice → Option (Place × Value) → List Told
of_choice f path ch None = []
of_choice f path ch (Some c) = of_alternative f path (standing ch c.0) c.1

-- a component, by the root components of its record and their values: where it is an open type, the criticality beside
-- it, and the value that its octets were read as
abbrev pub of_component : List Kind → Telling → List ℕ → List Component → List Value → Component → Option ObjectSet
    → Value → List Told
of_component ts f path cs xs c None y = f (joined path (string_bytes c.name)) c.of y
of_component ts f path cs xs c (Some s) y = of_criticality ts path cs xs s (row_held ts cs xs s)
    ++ of_open f (joined path (string_bytes c.name)) s (chosen_of y)

abbrev pub of_field : List Kind → Telling → List ℕ → List Component → List Value → Option Component → Value
    → List Told
of_field ts f path cs xs None y = []
of_field ts f path cs xs (Some c) y = of_component ts f path cs xs c (set_of (slice_get ts c.of)) y

abbrev pub of_fields : List Kind → Telling → List ℕ → List Component → List Value → List Component → List Value
    → List Told
of_fields ts f path cs xs own ys = each_of (λ k y. of_field ts f path cs xs (slice_get own k) y) ys

-- a record: its root components, and its additions
abbrev pub of_record : List Kind → Telling → List ℕ → Record → Value → List Told
of_record ts f path r x = of_fields ts f path r.root.items (root_values x) r.root.items (root_values x)
    ++ of_fields ts f path r.root.items (root_values x) (behind r.additions) (added_values x)

-- a list: its elements together, and each
abbrev pub of_elements : Telling → List ℕ → ℕ → List Value → List Told
of_elements f path i xs = each_of (λ k x. f (element_path path k) i x) xs

abbrev pub of_list : List Kind → Telling → List ℕ → ℕ → Option (List Value) → List Told
of_list ts f path i None = []
of_list ts f path i (Some xs) = of_all ts path (within ts (slice_get ts i)) xs ++ of_elements f path i xs

-- a value by what its type is
abbrev pub of_type : List Kind → Telling → List ℕ → Option Kind → Value → List Told
of_type ts f path (Some (ListKind i c)) x = of_list ts f path i (elements_of x)
of_type ts f path (Some (SetOf i c)) x = of_list ts f path i (elements_of x)
of_type ts f path (Some (RecordKind r)) x = of_record ts f path r x
of_type ts f path (Some (ChoiceKind c)) x = of_choice f path c (chosen_of x)
of_type ts f path k x = []

-- where a value of the type at a place, to which a path leads, departs from object sets, to so many levels
unfoldable pub remarks_at : List Kind → ℕ → Telling
remarks_at ts zero path i x = []
remarks_at ts (suc n) path i x = of_type ts (remarks_at ts n) path (within ts (slice_get ts i)) x

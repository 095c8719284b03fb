-- Whether names tell apart the parts of the types of a table.
use Rattle.std.specs.Prelude.{ℕ, Bool, true, false, not, ◌&&◌, ◌==◌, List, [], ◌∷◌, ◌++◌, map, flat_map, Option, Some}
use Rattle.std.specs.Prelude.{None, string_bytes}
use Rattle.std.specs.List.{list_all, list_any}
use Rattle.std.specs.Option.{option_and_then}
use Rattle.std.specs.Str.{bytes_eq}
use Rattle.rasn_dynamic.specs.Types.{behind, row_at}
use Rattle.rasn_dynamic.specs.declared.types.Choice.{Choice}
use Rattle.rasn_dynamic.specs.declared.types.Component.{Component}
use Rattle.rasn_dynamic.specs.declared.types.Items.{Items}
use Rattle.rasn_dynamic.specs.declared.types.Kind.{Kind}
use Rattle.rasn_dynamic.specs.declared.types.Kind.TheVariants.{Simple as SimpleKind, Record as RecordKind}
use Rattle.rasn_dynamic.specs.declared.types.Kind.TheVariants.{Choice as ChoiceKind, Open}
use Rattle.rasn_dynamic.specs.declared.types.ObjectSet.{ObjectSet}
use Rattle.rasn_dynamic.specs.declared.types.Record.{Record}
use Rattle.rasn_dynamic.specs.declared.types.Row.{Row}
use Rattle.rasn_dynamic.specs.declared.types.Simple.{Simple}
use Rattle.rasn_dynamic.specs.declared.types.Simple.TheVariants.{Enumerated}
use Rattle.rasn_dynamic_jer.specs.Shown.{group_in}
use Rattle.rasn_dynamic_jer.specs.FromJson.{row_place}

-- whether a name is among some
abbrev pub is_among : List (List ℕ) → List ℕ → Bool
is_among ns n = list_any (λ m. bytes_eq m n) ns

-- whether no two names are the same
abbrev pub differ : List (List ℕ) → Bool
differ [] = true
differ (n ∷ ns) = not (is_among ns n) && differ ns

-- X.680 20: the names of items
abbrev pub item_names : Items → List (List ℕ)
item_names i = map (λ n. string_bytes n) i.roots.items ++ map (λ n. string_bytes n) (behind i.addeds)

-- X.680 29: the names of alternatives
abbrev pub alternative_names : Choice → List (List ℕ)
alternative_names c = map (λ a. string_bytes a.name) c.roots.items ++ map (λ a. string_bytes a.name) (behind c.addeds)

-- the names of components
abbrev pub component_names : List Component → List (List ℕ)
component_names cs = map (λ c. string_bytes c.name) cs

-- of an addition: of a group those of its components
abbrev pub addition_names : Option Record → Component → List (List ℕ)
addition_names None c = string_bytes c.name ∷ []
addition_names (Some g) c = component_names g.root.items

-- X.680 25: the names of the members of a record
abbrev pub member_names : List Kind → Record → List (List ℕ)
member_names ts r =
    component_names r.root.items ++ flat_map (λ c. addition_names (group_in ts c) c) (behind r.additions)

-- whether a row is of the type at a place
abbrev pub is_row_of : ℕ → Option Row → Bool
is_row_of i None = false
is_row_of i (Some r) = r.of == i

-- whether the first row with the name of a row is of its type
abbrev pub is_row_apart : ObjectSet → Row → Bool
is_row_apart s r = is_row_of r.of (option_and_then (row_at s) (row_place s (string_bytes r.name)))

-- whether rows of one name are of one type
abbrev pub are_rows_apart : ObjectSet → Bool
are_rows_apart s = list_all (is_row_apart s) s.rows.items

-- whether the items of an ENUMERATED differ by name
abbrev pub is_simple_apart : Simple → Bool
is_simple_apart (Enumerated i) = differ (item_names i)
is_simple_apart k = true

-- whether names tell the parts of a type apart
abbrev pub is_kind_apart : List Kind → Kind → Bool
is_kind_apart ts (SimpleKind k) = is_simple_apart k
is_kind_apart ts (RecordKind r) = differ (member_names ts r)
is_kind_apart ts (ChoiceKind c) = differ (alternative_names c)
is_kind_apart ts (Open s) = are_rows_apart s
is_kind_apart ts k = true

-- of each type of a table
abbrev pub is_named_apart : List Kind → Bool
is_named_apart ts = list_all (is_kind_apart ts) ts

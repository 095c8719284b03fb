-- That places are those of a table: below the number of its types.
use Rattle.std.specs.Prelude.{ℕ, ◌<◌, length, List, Option, IfSome}
use Rattle.std.specs.List.{All}
use Rattle.std.specs.Global.{Vec}
use Rattle.rasn_dynamic.specs.declared.types.Alternative.{Alternative}
use Rattle.rasn_dynamic.specs.declared.types.Choice.{Choice}
use Rattle.rasn_dynamic.specs.declared.types.Component.{Component}
use Rattle.rasn_dynamic.specs.declared.types.Record.{Record}
use Rattle.rasn_dynamic.specs.declared.types.Types.{Types}
use Rattle.rasn_dynamic.specs.declared.types.Name.{Name}
use Rattle.rasn_dynamic.specs.declared.types.Kind.{Kind}
use Rattle.rasn_dynamic.specs.declared.types.Kind.TheVariants.{Simple, Date, List as ListKind, SetOf}
use Rattle.rasn_dynamic.specs.declared.types.Kind.TheVariants.{Record as RecordKind, Choice as ChoiceKind}
use Rattle.rasn_dynamic.specs.declared.types.Kind.TheVariants.{Containing, Open}
use Rattle.rasn_dynamic.specs.declared.types.Row.{Row}

-- the types of components
abbrev pub ComponentsAreInside : ℕ → List Component → Type 0
ComponentsAreInside types components = All (λ c. c.of < types) components

-- the types of alternatives
abbrev pub AlternativesAreInside : ℕ → List Alternative → Type 0
AlternativesAreInside types alternatives = All (λ a. a.of < types) alternatives

-- the types of all components of a SEQUENCE or SET
pub record RecordIsInside (types : ℕ) (record' : Record) : Type 0 where
  pub root : ComponentsAreInside types record'.root.items
  pub additions : IfSome record'.additions (λ v. ComponentsAreInside types v.items)

-- the types of all alternatives of a CHOICE
pub record ChoiceIsInside (types : ℕ) (choice : Choice) : Type 0 where
  pub roots : AlternativesAreInside types choice.roots.items
  pub addeds : IfSome choice.addeds (λ v. AlternativesAreInside types v.items)

-- the types that an open type may be
abbrev pub RowsAreInside : ℕ → List Row → Type 0
RowsAreInside types rows = All (λ r. r.of < types) rows

-- the types that are in a type
abbrev pub KindIsInside : ℕ → Kind → Type 0
KindIsInside types (Simple _) = Unit {0}
KindIsInside types Date = Unit {0}
KindIsInside types (ListKind of _) = of < types
KindIsInside types (SetOf of _) = of < types
KindIsInside types (RecordKind components) = RecordIsInside types components
KindIsInside types (ChoiceKind alternatives) = ChoiceIsInside types alternatives
KindIsInside types (Containing of) = of < types
KindIsInside types (Open set) = RowsAreInside types set.rows.items

-- every place in a table, and every place that a name has, is one of the table
pub record PlacesAreInside (types : Types) : Type 0 where
  pub kinds : All (KindIsInside (length types.kinds.items)) types.kinds.items
  pub names : All (λ name. name.place < length types.kinds.items) types.names.items

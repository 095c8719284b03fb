-- Whether the places that a table names are those of its types.
use Rattle.std.specs.Prelude.{ℕ, ◌≡◌, Bool, true, false, ◌&&◌, nat_lt, length, List, slice_get, Some}
use Rattle.rasn_schema.specs.Lawful.{all_pass}
use Rattle.rasn_dynamic.specs.declared.types.Kind.{Kind}
use Rattle.rasn_dynamic.specs.declared.types.Kind.TheVariants.{Simple as SimpleKind, Date, List as ListKind, SetOf}
use Rattle.rasn_dynamic.specs.declared.types.Kind.TheVariants.{Record as RecordKind, Choice as ChoiceKind, Containing}
use Rattle.rasn_dynamic.specs.declared.types.Kind.TheVariants.{Open as OpenKind}
use Rattle.rasn_dynamic.specs.declared.types.Name.{Name}
use Rattle.rasn_dynamic.specs.Types.{behind}
use Rattle.lawful_types.specs.declared.places.PastTable.{PastTable}
use Rattle.lawful_types.specs.declared.places.PastTable.TheVariants.{OfType, OfName}

-- whether each place that a type names is below a number of types
abbrev pub is_inside : ℕ → Kind → Bool
is_inside n (SimpleKind k) = true
is_inside n Date = true
is_inside n (ListKind i c) = nat_lt i n
is_inside n (SetOf i c) = nat_lt i n
is_inside n (RecordKind r) =
    all_pass (λ c. nat_lt c.of n) r.root.items && all_pass (λ c. nat_lt c.of n) (behind r.additions)
is_inside n (ChoiceKind c) =
    all_pass (λ a. nat_lt a.of n) c.roots.items && all_pass (λ a. nat_lt a.of n) (behind c.addeds)
is_inside n (Containing i) = nat_lt i n
is_inside n (OpenKind s) = all_pass (λ r. nat_lt r.of n) s.rows.items

-- whether the place that a name has is below a number of types
abbrev pub is_name_inside : ℕ → Name → Bool
is_name_inside n name = nat_lt name.place n

-- each place that a type of a table names, or a name has, is one of the table
pub record AreAllInside (ts : List Kind) (names : List Name) : Type 0 where
  pub types_inside : all_pass (is_inside (length ts)) ts ≡ true
  pub names_inside : all_pass (is_name_inside (length ts)) names ≡ true

-- what a list has at a place fails a test
pub record FailsAt {A : Type 0} (f : A → Bool) (xs : List A) (i : ℕ) : Type 0 where
  pub item : A
  pub stands : slice_get xs i ≡ Some item
  pub fails : f item ≡ false

-- a type of a table, or a name, that names a place past it
abbrev pub IsPastTable : List Kind → List Name → PastTable → Type 0
IsPastTable ts names (OfType i) = FailsAt (is_inside (length ts)) ts i
IsPastTable ts names (OfName i) = FailsAt (is_name_inside (length ts)) names i

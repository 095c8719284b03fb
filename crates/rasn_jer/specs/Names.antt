-- The names of errors; those of components; and the identifiers of items and alternatives, in the order of a type's
-- lists (ITU-T X.697): those before an extension marker, and after them those after it.
use Rattle.std.specs.Prelude.{ℕ, ◌≡◌, ◌+◌, List, [], length, get_or, map, slice_get, Option, Some, None, codes, decimal}
use Rattle.rasn_types.specs.Values.{Value, item, root, added}
use Rattle.rasn_strings.specs.declared.time_error.TimeError.{TimeError}
use Rattle.rasn_strings.specs.declared.time_error.TimeError.TheVariants.{Unrepresentable}
use Rattle.rasn_schema.specs.Choices.{place_of, VariantShape, variants_after}
use Rattle.rasn_schema.specs.Fields.{Shape, shape_of}
use Rattle.rasn_schema.specs.Schemas
use Rattle.rasn_schema.specs.declared.fields.Field.{Field}
use Rattle.rasn_schema.specs.declared.items.Place.{Place}
use Rattle.rasn_schema.specs.declared.items.Place.TheVariants.{Root, Added}
use Rattle.json.specs.Json.{Json, number, string}
use Rattle.rasn_jer.specs.declared.error.EncodeError.{EncodeError}
use Rattle.rasn_jer.specs.declared.error.EncodeError.TheVariants.{AlreadyFailed, NoJson, OutOfMemory, OutOfTurn}
use Rattle.rasn_jer.specs.declared.error.EncodeError.TheVariants.{VariantNotInChoice}

-- an error's name
abbrev pub name_of : EncodeError → List ℕ
name_of OutOfMemory = codes "OutOfMemory"
name_of NoJson = codes "NoJson"
name_of VariantNotInChoice = codes "VariantNotInChoice"
name_of OutOfTurn = codes "OutOfTurn"
name_of AlreadyFailed = codes "AlreadyFailed"

-- a moment that no text of its type holds has no JSON; what else a time's text lacks is memory
abbrev pub error_of_time : TimeError → EncodeError
error_of_time Unrepresentable = NoJson
error_of_time _ = OutOfMemory

-- the next of the names that are left, which is empty after the last
abbrev pub next_name : List (List ℕ) → List ℕ
next_name names = get_or names 0 []

-- the names of fields, in their order
abbrev pub names_of : List Field → List (List ℕ)
names_of fields = map (λ f. f.name.now) fields

-- names are those of fields of such shapes, in their order: contracts see the fields of a type without their names
pub record AreNamesOf (shapes : List Shape) (names : List (List ℕ)) : Type 0 where
  pub fields : List Field
  pub are_these : map shape_of fields ≡ shapes
  pub are_names : names ≡ names_of fields

-- X.697: an item of an ENUMERATED is its identifier; where the type gives none at its number, it is the number
abbrev pub named_or : Option (List ℕ) → ℕ → Json
named_or (Some name) n = string name
named_or None n = number (decimal n)

abbrev pub item_by : List (List ℕ) → ℕ → Json
item_by names n = named_or (slice_get names n) n

-- X.680 20: the number of an item: those before the extension marker count from 0, and those after it go on
abbrev pub number_of_item : ℕ → Value → ℕ
number_of_item roots (item root k) = k
number_of_item roots (item added k) = roots + k
number_of_item roots _ = 0

-- X.680 29.1: the identifier of the alternative that goes by a tag, where the type gives one; no two go by one
pub record IdentifierOf (names : List (List ℕ)) (t : Schemas.Tag) (vs : List VariantShape)
    (xs : Option (List VariantShape)) (name : Option (List ℕ)) : Type 0 where
  pub of_root : (k : ℕ) → place_of t vs ≡ Some k → name ≡ slice_get names k
  pub of_added : (k : ℕ) → place_of t (variants_after xs) ≡ Some k → name ≡ slice_get names (length vs + k)

-- a name is an identifier, where there is one
abbrev pub IsNameBy : Option (List ℕ) → List ℕ → Type 0
IsNameBy found name = (s : List ℕ) → found ≡ Some s → name ≡ s

-- X.697: an alternative goes by its identifier, where the type gives one
pub record NamesAlternative (names : List (List ℕ)) (t : Schemas.Tag) (vs : List VariantShape)
    (xs : Option (List VariantShape)) (name : List ℕ) : Type 0 where
  pub found : Option (List ℕ)
  pub is_found : IdentifierOf names t vs xs found
  pub named : IsNameBy found name

-- X.680 29.1: the number of the alternative at a place: those before the extension marker count from 0, and those
-- after it go on
abbrev pub number_of_place : ℕ → Place → ℕ
number_of_place roots (Root k) = k
number_of_place roots (Added k) = roots + k

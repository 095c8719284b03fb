-- The index of a CHOICE, as it is read (X.691 23.5 to 23.8).
use Rattle.std.specs.Prelude.{◌≡◌, ◌<◌, ◌≤◌, ℕ, Bool, Option, Some, None}
use Rattle.rasn_types.specs.Values.{Side, root, added}
use Rattle.rasn_schema.specs.declared.items.Place.{Place}
use Rattle.rasn_schema.specs.declared.items.Place.TheVariants.{Root, Added}
use Rattle.per_decoding.specs.Enumerations.{side_of}
use Rattle.per_core.specs.declared.decode_error.DecodeErrorKind.{DecodeErrorKind}
use Rattle.per_core.specs.declared.decode_error.DecodeErrorKind.TheVariants.{ChoiceIndexExceedsPlatformWidth}
use Rattle.per_core.specs.declared.decode_error.DecodeErrorKind.TheVariants.{ChoiceIndexNotFound}

-- the list of an alternative, and its index there
abbrev pub index_of : Place → Side × ℕ
index_of (Root i) = (root, i)
index_of (Added i) = (added, i)

-- an alternative is at a place that was read
pub record IsKnown (count : ℕ) (extended : Bool) (place : Option ℕ) (x : Side × ℕ) : Type 0 where
  pub index : ℕ
  pub is_place : place ≡ Some index
  pub below : index < count
  pub is : x ≡ (side_of extended, index)

-- none is there, or the place is past 64 bits, and a kind that says so
abbrev pub IsUnknown : ℕ → Option ℕ → DecodeErrorKind → Type 0
IsUnknown n place (ChoiceIndexNotFound i) = (place ≡ Some i) × (n ≤ i)
IsUnknown n place ChoiceIndexExceedsPlatformWidth = place ≡ None
IsUnknown n place k = ⊥

-- What a record states of its extension marker and of the additions after it (ITU-T X.680, 25.1).
use Rattle.std.specs.Prelude.{◌≡◌, refl, ℕ, Bool, false, List, [], Option, Some, None}
use Rattle.rasn_schema.specs.Fields.{Shape, shapes_from}
use Rattle.rasn_schema.specs.Records.{no_additions}
use Rattle.rasn_schema.specs.Schemas.{Parts, no_parts}

-- the fields after a marker, where the type lists some
abbrev pub fields_after : Option (List Shape) → List Shape
fields_after None = []
fields_after (Some fs) = fs

-- The fields after the marker are those of the additions, and there is none without a marker.
pub record Extends (marker : Bool) (behind : Option (List Shape)) (additions : ℕ → Parts) : Type 0 where
  pub described : (n : ℕ) → fields_after behind ≡ shapes_from 0 (additions n)
  pub marked : marker ≡ false → (n : ℕ) → additions n ≡ no_parts

-- a type that says nothing of a marker
pub unextended : Extends false None no_additions
unextended = record { described = λ n. refl; marked = λ e n. refl }

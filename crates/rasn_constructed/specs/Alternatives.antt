-- An alternative of a CHOICE, as a default tells it from others.
use Rattle.std.specs.Prelude.{◌≡◌, ℕ, zero, suc, Bool, not, ◌&&◌, ◌==◌, Option, Some, None}
use Rattle.rasn_types.specs.Values.{Side, side_code}
use Rattle.rasn_schema.specs.Structures.{alternative_at}
use Rattle.rasn_schema.specs.Components.{Chosen}
use Rattle.rasn_schema.specs.Schemas.{Schema, Parts}
use Rattle.rasn_constructed.specs.Parts.{bare}

-- whether an alternative is another than the one at a place of a list
abbrev pub is_another : Side → ℕ → Chosen → Bool
is_another side i c = not (side_code c.side == side_code side && c.place == i)

-- a schema without the constraints on which no normal form depends, where there is one
abbrev pub bare_of : Option Schema → Option Schema
bare_of None = None
bare_of (Some s) = Some (bare s)

-- the alternative at a place is of a type with this schema, at each number of levels
pub record HasType (parts : ℕ → Parts) (i : ℕ) (schema : ℕ → Schema) : Type 0 where
  pub at_none : bare_of (alternative_at (parts zero) i) ≡ Some (bare (schema zero))
  pub at_some : (n : ℕ) → bare_of (alternative_at (parts (suc n)) i) ≡ Some (bare (schema (suc n)))

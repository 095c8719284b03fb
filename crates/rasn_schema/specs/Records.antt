-- Records: their schemas to a number of levels, and their values.
use Rattle.std.specs.Prelude.{ℕ, zero, suc, ◌≤◌, Bool, Option, Some, None}
use Rattle.rasn_schema.specs.Schemas
use Rattle.rasn_schema.specs.Schemas.{Schema, Parts, no_parts, Order}

-- X.680 25, 27: a record to a number of levels, of which it takes one; with none left it is cut off
abbrev pub record_at : Order → (ℕ → Parts) → Bool → (ℕ → Parts) → ℕ → Schema
record_at o parts extensible additions zero = Schemas.cut
record_at o parts extensible additions (suc n) = Schema.sequence o (parts n) extensible (additions n)

-- no additions, at every depth
abbrev pub no_additions : ℕ → Parts
no_additions n = no_parts

-- a fact at each unfolding of components that is deep enough for values of k levels
pub record AtParts (parts : ℕ → Parts) (k : ℕ) (P : Parts → Type 0) : Type 0 where
  pub at : (n : ℕ) → k ≤ n → P (parts n)

-- a type's own constraints, unless others are in their place
abbrev pub own_or : {A : Type 0} → A → Option A → A
own_or c None = c
own_or c (Some d) = d

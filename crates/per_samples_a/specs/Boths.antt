-- SEQUENCE { a A, b B }
use Rattle.std.specs.Prelude.{ℕ}
use Rattle.std.specs.Prelude.{List, [], ◌∷◌, Option, Some, false}
use Rattle.rasn_below.specs.Page.{Value, at}
use Rattle.rasn_below.specs.Types.{Levelled, part_levelled, parts_levelled, record_levelled, no_additions, record_at}
use Rattle.rasn_below.specs.Types.{Schema, Parts, listed, no_parts, part, required}

abbrev pub both_parts : (ℕ → Schema) → (ℕ → Schema) → ℕ → Parts
both_parts a b n = part (at 0) required (a n) (part (at 1) required (b n) no_parts)

-- to a number of levels
abbrev pub both_schema : (ℕ → Schema) → (ℕ → Schema) → ℕ → Schema
both_schema a b = record_at listed (both_parts a b) false no_additions

pub both_levelled : {a b : ℕ → Schema} → Levelled a → Levelled b → Levelled (both_schema a b)
both_levelled h k = record_levelled (part_levelled h (part_levelled k parts_levelled)) parts_levelled

abbrev pub both_contents : Value → Value → List (Option Value)
both_contents a b = Some a ∷ Some b ∷ []

-- Which schemas keep the numbers within the bounds of an extensible constraint to those of an i128 (ITU-T X.691, 13).
use Rattle.std.specs.Prelude.{ℕ, ◌-◌, ◌^◌, ◌≡◌, Bool, true, false, not, ◌&&◌, ◌||◌, Option, Some, None, ℤ, pos, negsuc}
use lib.Signed.{le_z}
use Rattle.rasn_constraints.specs.Bounds.{Bounds}
use Rattle.rasn_schema.specs.Schemas.{Schema, Parts, no_parts, part}
use Rattle.per_core.specs.WritingFaults.{has_bound}

-- whether a lower bound is there, no less than the least i128
abbrev pub starts_in_i128 : Option ℤ → Bool
starts_in_i128 None = false
starts_in_i128 (Some l) = le_z (negsuc (2 ^ 127 - 1)) l

-- whether an upper bound is there, no greater than the greatest i128
abbrev pub ends_in_i128 : Option ℤ → Bool
ends_in_i128 None = false
ends_in_i128 (Some u) = le_z u (pos (2 ^ 127 - 1))

-- whether bounds on both sides, of the constraint or of the number type, leave no number that is past an i128
abbrev pub are_in_i128 : Bounds → Bounds → Bool
are_in_i128 bounds range =
    (starts_in_i128 bounds.low || starts_in_i128 range.low) && (ends_in_i128 bounds.high || ends_in_i128 range.high)

-- X.691 13.1: whether an INTEGER has no number that is read after an extension bit, is within the bounds, and is past
-- an i128: its constraint isn't extensible, or has no bound, or leaves none
abbrev pub keeps_numbers : Bounds → Bool → Bounds → Bool
keeps_numbers bounds mark range = not mark || (not (has_bound bounds) || are_in_i128 bounds range)

unfoldable mutual
  -- whether each INTEGER in a schema is so
  pub keeps_to_i128 : Schema → Bool
  keeps_to_i128 (Schema.number bounds mark range) = keeps_numbers bounds mark range
  keeps_to_i128 (Schema.containing e) = keeps_to_i128 e
  keeps_to_i128 (Schema.list e size mark) = keeps_to_i128 e
  keeps_to_i128 (Schema.set_of e size mark) = keeps_to_i128 e
  keeps_to_i128 (Schema.sequence o ps ext adds) = keep_to_i128 ps && keep_to_i128 adds
  keeps_to_i128 (Schema.choice ps adds ext) = keep_to_i128 ps && keep_to_i128 adds
  keeps_to_i128 _ = true

  -- whether each INTEGER in parts, additions or alternatives is so
  pub keep_to_i128 : Parts → Bool
  keep_to_i128 no_parts = true
  keep_to_i128 (part t p s ps) = keeps_to_i128 s && keep_to_i128 ps

-- a type of any depth, each of whose trees is so
abbrev pub KeepsToI128 : (ℕ → Schema) → Type 0
KeepsToI128 type = (n : ℕ) → keeps_to_i128 (type n) ≡ true

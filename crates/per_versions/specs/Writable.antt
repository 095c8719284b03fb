-- Which schemas have a canonical encoding of each value that they read, open types aside (ITU-T X.691, 13, 19).
use Rattle.std.specs.Prelude.{◌^◌, Bool, true, not, ◌&&◌, ◌||◌, nat_lt, Option, Some, None, ℤ}
use Rattle.rasn_constraints.specs.Bounds.{Bounds}
use Rattle.rasn_schema.specs.Schemas.{count, Schema, Parts, no_parts, part}
use Rattle.per_core.specs.WritingFaults.{has_bound}
use Rattle.per_versions.specs.NumbersKept.{are_in_i128, starts_in_i128}

-- whether a lower bound, where there is one, is no less than the least i128
abbrev pub is_near : Option ℤ → Bool
is_near None = true
is_near (Some l) = starts_in_i128 (Some l)

-- X.691 13.1: whether an INTEGER has no number that is read after an extension bit, is within the bounds, and can't be
-- written within them: one that is past an i128, or above its lower bound by more than octets are counted for
abbrev pub writes_numbers : Bounds → Bool → Bounds → Bool
writes_numbers bounds mark range =
    not mark || (not (has_bound bounds) || (are_in_i128 bounds range && is_near bounds.low))

unfoldable mutual
  -- whether each INTEGER in a schema is so, and each record in it has fewer additions than `usize::MAX`
  pub is_writable : Schema → Bool
  is_writable (Schema.number bounds mark range) = writes_numbers bounds mark range
  is_writable (Schema.containing e) = is_writable e
  is_writable (Schema.list e size mark) = is_writable e
  is_writable (Schema.set_of e size mark) = is_writable e
  is_writable (Schema.sequence o ps ext adds) = are_writable ps && (are_writable adds && nat_lt (count adds) (2 ^ 64))
  is_writable (Schema.choice ps adds ext) = are_writable ps && are_writable adds
  is_writable _ = true

  -- whether each INTEGER and each record in parts, additions or alternatives is so
  pub are_writable : Parts → Bool
  are_writable no_parts = true
  are_writable (part t p s ps) = is_writable s && are_writable ps

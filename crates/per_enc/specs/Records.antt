-- What opening a SEQUENCE does to an encoder.
use Rattle.std.specs.Prelude.{ℕ, suc, Bool, true, false, List, length, Option, Some, None}
use Rattle.rasn_schema.specs.Extensions.{fields_after}
use Rattle.rasn_schema.specs.Fields.{Shape}
use Rattle.rasn_schema.specs.Structures.{presence_bits}
use Rattle.rasn_schema.specs.Normal.{root_of}
use Rattle.rasn_schema.specs.Schemas.{Schema, Parts, no_parts, part}
use Rattle.per_write.specs.Records.{Opens as OpensRecord}
use Rattle.per_write.specs.WriterState.{Frame, WriterState}

-- how many parts there are
abbrev pub part_count : Parts → ℕ
part_count no_parts = 0
part_count (part t p s ps) = suc (part_count ps)

-- a count of what is after an extension marker, where there is one
abbrev pub after_marker : Bool → ℕ → Option ℕ
after_marker false n = None
after_marker true n = Some n

-- how many additions a record's schema has, where it has an extension marker
abbrev pub addition_count : Schema → Option ℕ
addition_count (Schema.sequence o ps marker qs) = after_marker marker (part_count qs)
addition_count _ = None

-- how many additions a type states, where it has an extension marker
abbrev pub counted_after : Bool → Option (List Shape) → Option ℕ
counted_after marker behind = after_marker marker (length (fields_after behind))

-- X.691 19.1, 19.2: zeros stand for its extension bit and its presence bits, and its components after them
abbrev pub Opens : Schema → WriterState → Frame → WriterState → Type 0
Opens s x o i = OpensRecord (presence_bits (root_of s)) (addition_count s) x o i

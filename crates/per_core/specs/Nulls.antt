-- Lists of elements that take no bits (ITU-T X.691, 18).
use Rattle.std.specs.Prelude.{ℕ, false, replicate, Some}
use Rattle.rasn_types.specs.Values.{Value, nothing, elements, as_values}
use Rattle.rasn_constraints.specs.Bounds.{any_size}
use Rattle.rasn_schema.specs.Schemas.{Schema}

-- X.680 26: n elements, each a NULL
abbrev pub nulls : ℕ → Value
nulls n = elements (as_values (replicate n nothing))

-- X.680 26: SEQUENCE (SIZE (n)) OF NULL
abbrev pub sized_nulls : ℕ → Schema
sized_nulls n = Schema.list Schema.null (record { least = Some n; most = Some n }) false

-- X.680 26: SEQUENCE OF NULL
abbrev pub any_nulls : Schema
any_nulls = Schema.list Schema.null any_size false

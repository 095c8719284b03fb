-- The values of identifiers, and the levels of dates.
use Rattle.std.specs.Prelude.{ℕ, zero, suc, List}
use Rattle.rasn_types.specs.Values.{Value, octets}
use Rattle.rasn_schema.specs.Schemas.{Schema}
use Rattle.rasn_types.specs.Identifiers.{contents}

-- X.691 24: an OBJECT IDENTIFIER is its contents octets
abbrev pub identifier_value : List ℕ → Value
identifier_value arcs = octets (contents arcs)

-- X.691 32: a DATE to a number of levels, of which it takes two: that of its SEQUENCE and that of its year's CHOICE;
-- with fewer left it is cut off
abbrev pub date_at : ℕ → Schema
date_at zero = Schema.cut
date_at (suc zero) = Schema.cut
date_at (suc (suc n)) = Schema.date

-- Two versions of types with a default of 200 levels.
use Rattle.std.specs.Prelude.{ℕ, zero, suc, true, [], ◌∷◌}
use Rattle.rasn_schema.specs.Schemas.{required, optional, default, listed, Schema, no_parts}
use Rattle.per_rows.specs.Build.{integer, numbered, extensible_sequence}
use Rattle.per_rows.specs.Samples.{nest, nested, shallow_version}

-- SEQUENCE { k INTEGER, d Nest DEFAULT a value of 200 levels, ... }, and with the addition x BOOLEAN OPTIONAL
abbrev pub keyed : ℕ → Schema
keyed zero = Schema.cut
keyed (suc n) = Schema.sequence listed
    (numbered 0 ((required, integer) ∷ (default (nested 199), nest n) ∷ [])) true no_parts

abbrev pub longer_keyed : ℕ → Schema
longer_keyed zero = Schema.cut
longer_keyed (suc n) = Schema.sequence listed (numbered 0
    ((required, integer) ∷ (default (nested 199), nest n) ∷ [])) true (numbered 2 ((optional, Schema.boolean) ∷ []))

-- SEQUENCE { a BOOLEAN, ... }, and with the addition d Nest DEFAULT a value of 200 levels
abbrev pub flagged : ℕ → Schema
flagged zero = Schema.cut
flagged (suc n) = shallow_version

abbrev pub deeply_flagged : ℕ → Schema
deeply_flagged zero = Schema.cut
deeply_flagged (suc n) = extensible_sequence (Schema.boolean ∷ []) ((default (nested 199), nest n) ∷ [])

-- SEQUENCE { d Nest DEFAULT a value of 200 levels }
use Rattle.std.specs.Prelude.{ℕ, zero, suc}
use Rattle.std.specs.Prelude.{[], ◌∷◌, Some, None}
use Rattle.rasn_below.specs.Page.{Value, sequence_value, automatic, default, sequence, TypeLists}
use Rattle.per_samples_c.specs.Nests.{nest}

-- a Nest with so many levels inside the first
unfoldable pub nest_with : ℕ → Value
nest_with zero = sequence_value (None ∷ [])
nest_with (suc n) = sequence_value (Some (nest_with n) ∷ [])

abbrev pub deep : TypeLists
deep = automatic (default (nest_with 199) (sequence nest) ∷ [])

use Rattle.std.proofs.Common.{◌≡◌, ◌≤◌, ℕ, zero, suc, [], ◌∷◌, Option, Some, None, arith, refl}
use Rattle.rasn_below.specs.Values.{Value, sequence_value}
use Rattle.rasn_below.specs.Types.{sequence_at, normal, settle}
use Rattle.per_core.specs.Rows.{unaligned, bytes}
use Rattle.per_samples_c.specs.Nests.{nest}
use Rattle.per_samples_c.proofs.nest.a_level_is_a_bit.Goals as goal

-- a record of one component, absent or there
abbrev around : Option Value → Value
around r = sequence_value (r ∷ [])

three_levels : (n : ℕ) → 3 ≤ n → bytes unaligned (sequence_at nest n) (normal (sequence_at nest n) (around (Some (around (Some (around None)))))) ≡ Some (0xc0 ∷ [])
unfolding bytes normal settle
three_levels zero h = absurd (omega arith)
three_levels (suc zero) h = absurd (omega arith)
three_levels (suc (suc zero)) h = absurd (omega arith)
three_levels (suc (suc (suc n))) h = refl

pub returns-clause-three : goal.returns-clause-three
returns-clause-three c a b = record { at = three_levels }

use Rattle.std.proofs.Common.{◌≡◌, ap, ℕ, List, [], ◌∷◌, length, arith, inl, inr}
use Rattle.rasn_types.specs.Values.{Value}
use Rattle.rasn_schema.specs.Schemas.{Schema}
use Rattle.per_core.specs.Basic.{basic_in, fills}
use Rattle.per_rows.specs.Build.{uper}
use Rattle.per_rows.proofs.refusals.uper_null_is_one_zero_octet.Goals as goal

-- no bits are read, so it's the octet for none
no_bits : (v : Value) (os : List ℕ) → (os ≡ 0 ∷ [] → ⊥) → fills uper Schema.null v os → ⊥
unfolding basic_in
no_bits v os h (inl x) = absurd (omega (arith, ap length x.spelled.spelled, x.some))
no_bits v os h (inr x) = h x.1

pub returns-clause-other : goal.returns-clause-other
returns-clause-other c v = no_bits v (0x01 ∷ []) (λ e. cc)

pub returns-clause-none : goal.returns-clause-none
returns-clause-none c v = no_bits v [] (λ e. cc)

pub returns-clause-two : goal.returns-clause-two
returns-clause-two c v = no_bits v (0x00 ∷ 0x00 ∷ []) (λ e. cc)

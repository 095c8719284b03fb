-- Root components of a record, and the additions after them, over any encoder.
use Rattle.std.proofs.Common.{◌≡◌, ◌≤◌, le_trans, ℕ, Result, List, Option}
use Rattle.rasn_types.specs.Values.{Value}
use Rattle.rasn_schema.specs.Schemas.{Parts}
use Rattle.rasn_traits.specs.Calls.{EncoderRules}
use Rattle.rasn_traits.specs.Scopes.{WritesFields}

-- the same components and additions, at more levels
pub fields_written_as : {E X : Type 0} {rules : EncoderRules E X} {ps ps' qs qs' : ℕ → Parts} {k k' : ℕ} {rs rs' xs xs' : List (Option Value)} {x : X} {result : Result (Unit {0}) E} {y : X}
    → ((n : ℕ) → ps n ≡ ps' n) → ((n : ℕ) → qs n ≡ qs' n) → rs ≡ rs' → xs ≡ xs' → k' ≤ k → WritesFields rules ps' qs' k' rs' xs' x result y → WritesFields rules ps qs k rs xs x result y
fields_written_as p q r a d w = record { law = record { at = λ n le. rw (p n, q n, r, a) (w.law.at n (le_trans d le)) }; fails = w.fails; kept = w.kept }

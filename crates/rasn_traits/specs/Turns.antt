-- What comes in an open scope, whatever it is, and what closing one owes where not as much came as is due, stated over
-- any encoder's relations.
use Rattle.std.specs.Prelude.{◌≡◌, Bool, Result, IsErrAnd}
use Rattle.rasn_types.specs.Values.{Value}
use Rattle.rasn_schema.specs.Schemas.{Schema}
use Rattle.rasn_traits.specs.Amounts.{Amount, no_amount, with_addition, with_bit, with_component}
use Rattle.rasn_traits.specs.Calls.{EncoderRules}
use Rattle.rasn_traits.specs.Lists.{Mistimed}

-- So much came, one after another: values of any schemas, presence bits and additions.
pub data Came {E X : Type 0} (rules : EncoderRules E X) : Amount → X → X → Type 0 where
  came_nothing : {x : X} → Came rules no_amount x x
  came_value : {a : Amount} {s : Schema} {v : Value} {x m y : X} → rules.presents x s v m → Came rules a m y
      → Came rules (with_component a) x y
  came_bit : {a : Amount} {b : Bool} {x m y : X} → rules.marks x b m → Came rules a m y
      → Came rules (with_bit b a) x y
  came_skipped : {a : Amount} {x m y : X} → rules.skips x m → Came rules a m y → Came rules (with_addition a) x y
  came_added : {a : Amount} {s : Schema} {v : Value} {x m y : X} → rules.adds x s v m → Came rules a m y
      → Came rules (with_addition a) x y

-- Where another amount came than is due, closing the scope is refused.
abbrev pub RefusesOther : {E X : Type 0} → EncoderRules E X → Amount → X → X → Result (Unit {0}) E → Type 0
RefusesOther rules due i j result = (came : Amount) → Came rules came i j → (came ≡ due → ⊥)
    → IsErrAnd result (Mistimed rules j)

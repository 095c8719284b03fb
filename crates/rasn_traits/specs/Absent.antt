-- What a call owes that is asked for a value that is absent (X.680 25.6), stated over any codec's relations.
use Rattle.std.specs.Prelude.{Result, IsErrAnd}
use Rattle.rasn_schema.specs.Structures.{no_value}
use Rattle.rasn_schema.specs.Schemas.{Schema}
use Rattle.rasn_traits.specs.Calls.{Behaves, EncoderRules}

-- A call of an encoder that refuses a value that is absent, whatever its schema. It takes no memory.
pub record WritesAbsent {E X : Type 0} (rules : EncoderRules E X) (x : X) (result : Result (Unit {0}) E)
    (y : X) : Type 0 where
  pub law : IsErrAnd result (λ e. (s : Schema) → rules.refuses e x s no_value)
  pub behaves : Behaves rules.already rules.failed rules.codec x result y

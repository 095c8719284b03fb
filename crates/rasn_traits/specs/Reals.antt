-- What a call owes that is asked for a REAL (X.691 15), which isn't supported, stated over any codec's relations.
use Rattle.std.specs.Prelude.{Result, IsErrAnd}
use Rattle.rasn_types.specs.Values.{Value}
use Rattle.rasn_schema.specs.Schemas.{Schema}
use Rattle.rasn_traits.specs.Calls.{Behaves, EncoderRules, DecoderRules, Refuses}

-- A call of an encoder that refuses a REAL, whichever it is. It takes no memory.
pub record WritesNoReal {E X : Type 0} (rules : EncoderRules E X) (x : X) (result : Result (Unit {0}) E)
    (y : X) : Type 0 where
  pub law : IsErrAnd result (λ e. (v : Value) → rules.refuses e x Schema.real v)
  pub behaves : Behaves rules.already rules.failed rules.codec x result y

-- A call of a decoder that refuses to read a REAL. It takes no memory.
pub record ReadsNoReal {E S : Type 0} (rules : DecoderRules E S) (s : S) (result : Result (Unit {0}) E)
    (t : S) : Type 0 where
  pub law : IsErrAnd result (λ e. Refuses (rules.spells Schema.real) (rules.fault Schema.real) e s)
  pub behaves : Behaves rules.already rules.failed rules.codec s result t

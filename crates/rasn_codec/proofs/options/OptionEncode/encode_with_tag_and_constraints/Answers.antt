use Rattle.std.proofs.Common.{ℕ, Result, Ok, Err, inr, sym, subst}
use Rattle.rasn_schema.specs.Structures.{no_value}
use Rattle.rasn_schema.specs.Absent.{normal_none}
use Rattle.rasn_schema.specs.Schemas.{Schema}
use Rattle.rasn_traits.specs.Absent.{WritesAbsent}
use Rattle.rasn_traits.specs.Calls.{EncoderRules, Encodes}
use Rattle.rasn_codec.proofs.options.OptionEncode.encode_with_tag_and_constraints.Goals as goal

none_encoded : {E X : Type 0} (rules : EncoderRules E X) (schema : ℕ → Schema) (k : ℕ) (x : X) (result : Result (Unit {0}) E) (y : X) → WritesAbsent rules x result y → Encodes rules schema k no_value x result y
none_encoded rules schema k x (Ok u) y w = absurd w.law
none_encoded rules schema k x (Err e) y w = record {
  law = record { at = λ n h. inr (subst (rules.refuses e x (schema n)) (sym (normal_none (schema n))) (w.law (schema n))) };
  behaves = w.behaves;
}

pub returns-in-None : goal.returns-in-None
returns-in-None g c = rw c.in-None.is (none_encoded _ _ _ _ _ _ c.encode_absent.ensures)

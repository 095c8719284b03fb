use Rattle.std.proofs.Common.{refl, sym, ap, true, false, not, Some, rules}
use Rattle.rasn_schema.specs.Schemas.{optional, default}
use Rattle.rasn_traits.proofs.Optionals.{bit_written, of_freely, written_as}
use Rattle.rasn_codec.proofs.encoder_ext.EncoderExt.encode_default_with_tag_and_constraints.Goals as goal

pub returns-then-is_default : goal.returns-then-is_default
returns-then-is_default g c = record {
  law = λ d t. record {
    at = λ n le.
        let e = ap (λ b. Some (not b)) (sym ((t.says true (c.args.value, c.if-is_default.ensures, refl)).at n le)) in
        of_freely g.Self.Encoder.rules _ _ _ _ _ _ (bit_written g.Self.Encoder.rules _ _ _ (default d) _ _ e c.set_presence.ensures.law);
  };
  behaves = search rules;
}

pub returns : goal.returns
returns g c = record {
  law = λ d t. record {
    at = λ n le.
        let e = ap (λ b. Some (not b)) (sym ((t.says false (c.args.value, c.if-is_default.ensures, refl)).at n le)) in
        written_as g.Self.Encoder.rules _ _ _ optional (default d) _ _ refl e (c.encode_some_with_tag_and_constraints.ensures.law.at n le);
  };
  behaves = search rules;
}

use Rattle.std.proofs.Common.{refl, inr, rules}
use Rattle.std.proofs.lemmas.Result.{err_from_is_err_and}
use Rattle.rasn_traits.specs.Scopes.{refuses_bit}
use Rattle.rasn_traits.proofs.Optionals.{there_written}
use Rattle.rasn_codec.proofs.encoder_ext.EncoderExt.encode_some_with_tag_and_constraints.Goals as goal

pub returns-in_err-set_presence : goal.returns-in_err-set_presence
returns-in_err-set_presence g c =
    let p = err_from_is_err_and c.from_residual.result c.from_residual.ensures.1 in
    record { law = rw (p.1, p.2) (record { at = λ n le. inr (refuses_bit refl c.in_err-set_presence.ensures.law) }); behaves = search rules }

pub returns : goal.returns
returns g c = record {
  law = record { at = λ n le. there_written g.Self.Encoder.rules _ _ _ g.met.Self.Encoder.lawful _ _ _ _ refl c.in_ok-set_presence.ensures.law (c.encode_with_tag_and_constraints.ensures.law.at n le) };
  behaves = search rules;
}

use Rattle.std.proofs.Common.{refl}
use Rattle.rasn_jer.proofs.Writing.{made_or_not, string_made}
use Rattle.rasn_jer.specs.Shown.{is_no_text}
use Rattle.rasn_jer.proofs.encoder.EncoderEncoder.encode_known_multiplier_string.Goals as goal

pub returns : goal.returns
returns g c = c.write_made.ensures _ _ (string_made c.scalars-text.result (λ t. t.items) _ _ _ c.scalars-text.ensures.ok refl) (made_or_not c.scalars-text.result _ _ c.scalars-text.ensures.err (λ k. is_no_text k))

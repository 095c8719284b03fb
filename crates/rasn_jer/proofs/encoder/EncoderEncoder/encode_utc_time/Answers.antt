use Rattle.std.proofs.Common.{refl}
use Rattle.rasn_jer.proofs.Writing.{made_or_not, string_made}
use Rattle.rasn_jer.specs.Shown.{is_untimely}
use Rattle.rasn_jer.proofs.encoder.EncoderEncoder.encode_utc_time.Goals as goal

pub returns : goal.returns
returns g c = c.write_made.ensures _ _ (string_made c.utc_time-text.result (λ t. t.items) _ _ _ c.utc_time-text.ensures.ok refl) (made_or_not c.utc_time-text.result _ _ c.utc_time-text.ensures.err (λ k. is_untimely k))

use Rattle.std.proofs.Common.{refl}
use Rattle.rasn_traits.proofs.Optionals.{bit_written}
use Rattle.rasn_codec.proofs.encoder_ext.EncoderExt.encode_none_with_tag.Goals as goal

pub returns : goal.returns
returns g c = record { law = λ s. bit_written g.Self.Encoder.rules s _ _ _ _ _ refl c.set_presence.ensures.law; behaves = c.set_presence.ensures.behaves }

use Rattle.rasn_jer.specs.Shown.{shows_octets}
use Rattle.rasn_jer.proofs.encoder.EncoderEncoder.encode_octet_string.Goals as goal

pub returns : goal.returns
returns g c = c.write_octets.ensures _ _ shows_octets

use Rattle.std.proofs.Common.{ap, encode_utf8_all}
use Rattle.rasn_jer.specs.Shown.{shows_string}
use Rattle.rasn_jer.proofs.encoder.EncoderEncoder.encode_graphic_string.Goals as goal

pub returns : goal.returns
returns g c = c.write_latin.ensures _ _ (shows_string (ap encode_utf8_all c.as_bytes.ensures))

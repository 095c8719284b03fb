use Rattle.rasn_dynamic_codec.proofs.Reading.{octets_level}
use Rattle.rasn_dynamic_codec.proofs.read.open_octets.Goals as goal

pub returns : goal.returns
returns g c = record { opened = c.open_contents.ensures; level = octets_level g.met.D.Decoder.lawful g.met.D.Decoder.contents c.args.decoder.now c.open_contents.result c.open_contents.new.self c.open_contents.ensures.law }

use Rattle.rasn_dynamic_codec.proofs.Reading.{open_level}
use Rattle.rasn_dynamic_codec.proofs.read.open_next.Goals as goal

pub returns : goal.returns
returns g c = record { opened = c.open_addition.ensures; level = open_level g.met.D.Decoder.lawful g.met.D.Decoder.additions c.args.decoder.now c.open_addition.result c.open_addition.new.self c.open_addition.ensures.law }

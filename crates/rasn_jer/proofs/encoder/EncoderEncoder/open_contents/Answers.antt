use Rattle.rasn_jer.proofs.Contained.{contents_opened}
use Rattle.rasn_jer.proofs.encoder.EncoderEncoder.open_contents.Goals as goal

pub returns : goal.returns
returns g c = record {
  law = contents_opened _ c.args.self.now c.enter.result c.enter.new.self c.enter.ensures c.new-place.ensures;
  behaves = c.enter.ensures.behaves;
}

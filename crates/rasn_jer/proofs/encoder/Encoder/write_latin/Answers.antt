use Rattle.rasn_jer.proofs.Writing.{leaf_as}
use Rattle.rasn_jer.proofs.encoder.Encoder.write_latin.Goals as goal

pub returns : goal.returns
returns g c = λ s v h. leaf_as c.latin-text.result (λ t. t.items) c.args.self.now s v c.write.result c.write.new.self _ c.write.ensures c.latin-text.ensures h

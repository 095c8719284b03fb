use Rattle.rasn_jer.proofs.Writing.{leaf_as}
use Rattle.rasn_jer.proofs.encoder.Encoder.write_octets.Goals as goal

pub returns : goal.returns
returns g c = λ s v h. leaf_as c.hexadecimal-text.result (λ t. t.items) c.args.self.now s v c.write.result c.write.new.self _ c.write.ensures c.hexadecimal-text.ensures h

use Rattle.rasn_jer.proofs.Writing.{null_leaf}
use Rattle.json.specs.Json.{null}
use Rattle.rasn_jer.specs.Shown.{shows_nothing}
use Rattle.rasn_jer.proofs.encoder.EncoderEncoder.encode_null.Goals as goal

pub returns : goal.returns
returns g c = null_leaf c.nothing-text.result (λ t. t.items) c.args.self.now c.write.result c.write.new.self null c.write.ensures c.nothing-text.ensures shows_nothing

use Rattle.rasn_jer.proofs.Writing.{leaf_as}
use Rattle.json.specs.Json.{boolean}
use Rattle.rasn_jer.specs.Shown.{shows_truth}
use Rattle.rasn_jer.proofs.encoder.EncoderEncoder.encode_bool.Goals as goal

pub returns : goal.returns
returns g c = leaf_as c.truth-text.result (λ t. t.items) c.args.self.now _ _ c.write.result c.write.new.self (boolean c.args.value) c.write.ensures c.truth-text.ensures (shows_truth)

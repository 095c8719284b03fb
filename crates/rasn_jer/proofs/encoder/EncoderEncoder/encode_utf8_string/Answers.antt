use Rattle.rasn_jer.proofs.Writing.{leaf_as}
use Rattle.json.specs.Json.{string}
use Rattle.std.proofs.Common.{refl}
use Rattle.rasn_jer.specs.Shown.{shows_string}
use Rattle.rasn_jer.proofs.encoder.EncoderEncoder.encode_utf8_string.Goals as goal

pub returns : goal.returns
returns g c = leaf_as c.quoted-text.result (λ t. t.items) c.args.self.now _ _ c.write.result c.write.new.self (string c.args.value.now) c.write.ensures c.quoted-text.ensures (shows_string refl)

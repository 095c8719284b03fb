use Rattle.std.proofs.Common.{refl}
use Rattle.json.specs.Json.{string}
use Rattle.rasn_jer.proofs.Writing.{leaf_as}
use Rattle.rasn_jer.specs.Shown.{shows_string}
use Rattle.rasn_jer.specs.Strings.{dotted}
use Rattle.rasn_jer.proofs.encoder.EncoderEncoder.encode_object_identifier.Goals as goal

pub returns : goal.returns
returns g c = leaf_as c.identifier-text.result (λ t. t.items) c.args.self.now _ _ c.write.result c.write.new.self (string (dotted c.args.value.now)) c.write.ensures c.identifier-text.ensures
    (shows_string (c.args.value.now, refl, refl))

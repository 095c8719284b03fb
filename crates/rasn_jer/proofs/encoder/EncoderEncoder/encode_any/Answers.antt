use Rattle.std.proofs.Common.{List, subst, ℕ}
use Rattle.hex.specs.Hex.{encode_upper}
use Rattle.json.specs.Json.{string}
use Rattle.rasn_types.specs.Values.{octets}
use Rattle.rasn_schema.specs.Schemas.{Schema}
use Rattle.rasn_jer.specs.Shown.{Shows, shows_any}
use Rattle.rasn_jer.proofs.encoder.EncoderEncoder.encode_any.Goals as goal

pub returns : goal.returns
returns g c = c.write_octets.ensures _ _
    (subst (λ (os : List ℕ). Shows Schema.any (octets os) (string (encode_upper c.as_bytes.result.now))) c.as_bytes.ensures shows_any)

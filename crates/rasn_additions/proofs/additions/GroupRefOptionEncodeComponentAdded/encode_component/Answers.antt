use Rattle.std.proofs.Common.{refl, None}
use Rattle.rasn_schema.specs.Schemas.{group}
use Rattle.rasn_record.proofs.OneAddition.{given_absent}
use Rattle.rasn_additions.proofs.additions.GroupRefOptionEncodeComponentAdded.encode_component.Goals as goal

pub returns-in-None : goal.returns-in-None
returns-in-None g c = record {
  law = rw c.in-None.is (record { at = λ n le. given_absent g.E.Encoder.rules group _ None _ _ _ refl c.skip_addition.ensures.law });
  behaves = c.skip_addition.ensures.behaves;
}

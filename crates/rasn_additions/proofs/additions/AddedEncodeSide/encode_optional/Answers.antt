use Rattle.std.proofs.Common.{refl, None}
use Rattle.rasn_schema.specs.Normal.{settle}
use Rattle.rasn_schema.specs.Schemas.{optional}
use Rattle.rasn_record.proofs.OneAddition.{given_absent, given_there}
use Rattle.rasn_additions.proofs.additions.AddedEncodeSide.encode_optional.Goals as goal

pub returns-in-Some : goal.returns-in-Some
unfolding settle
returns-in-Some g c = record {
  law = rw c.in-Some.is (record { at = λ n le. given_there g.E.Encoder.rules _ _ _ _ _ _ refl (c.encode_extension_addition.ensures.law.at n le) });
  behaves = c.encode_extension_addition.ensures.behaves;
}

pub returns-in-None : goal.returns-in-None
returns-in-None g c = record {
  law = rw c.in-None.is (record { at = λ n le. given_absent g.E.Encoder.rules optional _ None _ _ _ refl c.skip_addition.ensures.law });
  behaves = c.skip_addition.ensures.behaves;
}

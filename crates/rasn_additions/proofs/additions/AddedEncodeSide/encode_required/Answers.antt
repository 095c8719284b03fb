use Rattle.std.proofs.Common.{refl}
use Rattle.rasn_schema.specs.Normal.{settle}
use Rattle.rasn_record.proofs.OneAddition.{given_there}
use Rattle.rasn_additions.proofs.additions.AddedEncodeSide.encode_required.Goals as goal

pub returns : goal.returns
unfolding settle
returns g c = record {
  law = record { at = λ n le. given_there g.E.Encoder.rules _ _ _ _ _ _ refl (c.encode_extension_addition.ensures.law.at n le) };
  behaves = c.encode_extension_addition.ensures.behaves;
}

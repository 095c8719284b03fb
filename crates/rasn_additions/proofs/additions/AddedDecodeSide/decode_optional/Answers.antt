use Rattle.std.proofs.Common.{refl}
use Rattle.rasn_schema.specs.Schemas.{optional}
use Rattle.rasn_record.proofs.OneAddition.{addition_taken}
use Rattle.rasn_additions.proofs.additions.AddedDecodeSide.decode_optional.Goals as goal

pub returns : goal.returns
returns g c = record {
  law = addition_taken g.D.Decoder.rules g.H.AsnType.value optional _ _ _ _ _ refl c.decode_extension_addition_with_tag_and_constraints.ensures.law;
  behaves = c.decode_extension_addition_with_tag_and_constraints.ensures.behaves;
}

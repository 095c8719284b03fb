use Rattle.rasn_record.proofs.Slots.{value_taken}
use Rattle.rasn_record.proofs.sides.RootDecodeSide.decode_required.Goals as goal

pub returns : goal.returns
returns g c = record {
  law = value_taken g.D.Decoder.rules _ g.H.AsnType.value _ _ _ c.decode_with_tag_and_constraints.ensures.law;
  behaves = c.decode_with_tag_and_constraints.ensures.behaves;
}

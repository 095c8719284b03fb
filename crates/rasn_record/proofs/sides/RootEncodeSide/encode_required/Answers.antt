use Rattle.rasn_record.proofs.Slots.{value_written}
use Rattle.rasn_record.proofs.sides.RootEncodeSide.encode_required.Goals as goal

pub returns : goal.returns
returns g c = record {
  law = record { at = λ n le. value_written g.E.Encoder.rules _ _ _ _ _ (c.encode_with_tag_and_constraints.ensures.law.at n le) };
  behaves = c.encode_with_tag_and_constraints.ensures.behaves;
}

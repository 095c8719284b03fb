use Rattle.rasn_record.proofs.Slots.{value_taken}
use Rattle.rasn_constructed.proofs.read.HoldingPhantomDataDecodeHolding.decode_component.Goals as goal

pub returns : goal.returns
returns g c = record {
  law = value_taken g.D.Decoder.rules _ g.H.AsnType.value _ _ _ c.decode_wrapped.ensures.law;
  behaves = c.decode_wrapped.ensures.behaves;
}

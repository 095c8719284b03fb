use Rattle.std.proofs.Common.{None}
use Rattle.rasn_schema.specs.Schemas.{optional}
use Rattle.rasn_traits.proofs.Optionals.{of_freely}
use Rattle.rasn_record.proofs.sides.RootEncodeSide.encode_optional.Goals as goal

pub returns-in-None : goal.returns-in-None
returns-in-None g c = record {
  law = rw c.in-None.is (record { at = λ n le. of_freely g.E.Encoder.rules _ _ _ optional None _ (c.encode_none_with_tag.ensures.law _) });
  behaves = c.encode_none_with_tag.ensures.behaves;
}

use Rattle.rasn_jer.proofs.Writing.{record_closed}
use Rattle.rasn_schema.specs.Schemas.{listed}
use Rattle.rasn_schema.specs.Orders.{canonised_at}
use Rattle.rasn_jer.proofs.Turns.{record_untimely}
use Rattle.rasn_jer.proofs.encoder.EncoderEncoder.close_set.Goals as goal

pub returns : goal.returns
returns g c =
    let C = g.C.Constructed in
    record {
      closes = record {
        law = λ x i n rs xs h k. record_closed listed (canonised_at C.parts n) C.IS_EXTENSIBLE (C.additions n) x i c.args.self.now rs xs c.args.scope c.close.result c.close.new.self c.close.ensures.closed h k;
        behaves = c.close.ensures.behaves;
      };
      untimely = λ x i n h. record_untimely listed (canonised_at C.parts n) C.IS_EXTENSIBLE (C.additions n) x i c.args.self.now c.args.scope c.close.result h c.close.ensures.lacks;
    }

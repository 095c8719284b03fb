use Rattle.rasn_jer.proofs.Writing.{record_closed}
use Rattle.rasn_schema.specs.Schemas.{listed}
use Rattle.rasn_jer.proofs.encoder.EncoderEncoder.close_fields.Goals as goal

pub returns : goal.returns
returns g c =
    let C = g.C.Constructed in
    record {
      law = λ x i n rs xs h k. record_closed listed (C.parts n) C.IS_EXTENSIBLE (C.additions n) x i c.args.self.now rs xs c.args.fields c.close.result c.close.new.self c.close.ensures.closed h k;
      behaves = c.close.ensures.behaves;
    }

use Rattle.std.proofs.Common.{ap, ◌∙◌, length, List}
use Rattle.rasn_jer.proofs.Writing.{fields_counted, record_opened}
use Rattle.rasn_schema.specs.Fields.{Shape}
use Rattle.rasn_schema.specs.Schemas.{listed}
use Rattle.std.specs.Prelude.{count_by}
use Rattle.rasn_schema.specs.Fields.{may_be_absent}
use Rattle.rasn_traits.proofs.Optionals.{bits_counted}
use Rattle.rasn_jer.proofs.encoder.EncoderEncoder.open_fields.Goals as goal

pub returns : goal.returns
returns g c =
    let C = g.C.Constructed in
    record {
      law = record_opened listed C.parts C.additions C.IS_EXTENSIBLE _ _ _ c.members_of-fields.result c.args.self.now c.enter.result c.enter.new.self
          (λ n. ap (λ (l : List Shape). length l) (C.described n) ∙ fields_counted 0 (C.parts n)) (λ n. ap (λ (l : List Shape). length l) (C.extends.described n) ∙ fields_counted 0 (C.additions n)) (λ n. ap (count_by may_be_absent) (C.described n) ∙ bits_counted 0 (C.parts n)) c.enter.ensures c.members_of-fields.ensures;
      behaves = c.enter.ensures.behaves;
    }

use Rattle.std.proofs.Common.{ap, ◌∙◌, length, List, sym}
use Rattle.rasn_jer.proofs.Writing.{fields_counted, record_opened}
use Rattle.rasn_schema.proofs.Canonised.{count_ordered, length-by_tags}
use Rattle.rasn_schema.specs.Fields.{Shape}
use Rattle.rasn_schema.specs.Schemas.{listed}
use Rattle.rasn_schema.specs.Orders.{canonised_at}
use Rattle.std.specs.Prelude.{count_by}
use Rattle.rasn_schema.specs.Fields.{may_be_absent}
use Rattle.rasn_traits.proofs.Optionals.{bits_counted}
use Rattle.rasn_schema.proofs.Canonised.{bits_ordered}
use Rattle.rasn_jer.proofs.encoder.EncoderEncoder.open_set.Goals as goal

pub returns : goal.returns
returns g c =
    let C = g.C.Constructed in
    record {
      law = record_opened listed (canonised_at C.parts) C.additions C.IS_EXTENSIBLE _ _ _ c.ordered_members_of-place.result c.args.self.now c.enter.result c.enter.new.self
          (λ n. length-by_tags _ C.FIELDS ∙ ap (λ (l : List Shape). length l) (C.described n) ∙ fields_counted 0 (C.parts n) ∙ sym (count_ordered (C.parts n)))
          (λ n. ap (λ (l : List Shape). length l) (C.extends.described n) ∙ fields_counted 0 (C.additions n)) (λ n. ap (count_by may_be_absent) (C.described n) ∙ bits_counted 0 (C.parts n) ∙ sym (bits_ordered (C.parts n))) c.enter.ensures c.ordered_members_of-place.ensures;
      behaves = c.enter.ensures.behaves;
    }

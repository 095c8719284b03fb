use Rattle.std.proofs.Common.{refl, ap, ◌∙◌}
use Rattle.std.proofs.lemmas.Result.{err_from_is_err_and}
use Rattle.rasn_schema.specs.Schemas.{count}
use Rattle.rasn_schema.specs.Orders.{canonised}
use Rattle.per_write.specs.Components.{Encoding}
use Rattle.per_pieces.specs.Turns.{awaits, is_complete}
use Rattle.per_enc.specs.Rules.{noting}
use Rattle.per_enc.proofs.AroundSets.{sequence_closed}
use Rattle.per_enc.proofs.NoOpenSet.{fields_inside}
use Rattle.per_enc.proofs.Records.{closes_record, not_failed_inside}
use Rattle.per_enc.proofs.Noting.{behaves_begun}
use Rattle.per_enc.proofs.Turns.{all_came, behaves_unclosed, not_unclosed, record_untimely, unclosed_untimely, unfailed_in_record}
use Rattle.per_enc.proofs.EncoderEncoder.close_set.Goals as goal

pub returns-in_err-check_scope : goal.returns-in_err-check_scope
returns-in_err-check_scope g c =
    let C = g.C.Constructed in
    let p = err_from_is_err_and c.from_residual.result c.from_residual.ensures.1 in
    let j = c.args.self.now in
    let u = c.in_err-check_scope.ensures.err in
    rw (p.1, p.2) (record {
      closes = record {
        law = λ x i n rs xs h k. absurd (not_unclosed _ j u (unfailed_in_record (canonised (C.parts n)) C.IS_EXTENSIBLE (C.additions n) x i j rs xs c.args.outside h k)
            (ap is_complete (fields_inside (canonised (C.parts n)) (C.additions n) i j rs xs h.inside k).1 ∙ all_came (count (canonised (C.parts n)))));
        behaves = behaves_unclosed _ j _ u c.in_err-check_scope.ensures.fails c.in_err-check_scope.ensures.kept;
      };
      untimely = λ x i n h. unclosed_untimely _ i j (awaits (count (canonised (C.parts n)))) _ h.inside h.opened.unfailed u;
    })

pub returns : goal.returns
returns g c =
    let C = g.C.Constructed in
    let m = c.self.view_is ∙ c.in_ok-check_scope.ensures.stays in
    rw (← m) (record {
      closes = record {
        law = λ x i n rs xs h k. sequence_closed (awaits (count (canonised (C.parts n)))) (canonised (C.parts n)) C.IS_EXTENSIBLE (C.additions n) x i _ (record { writer = c.close_record.new.self; set = c.args.outside.1 }) rs xs c.args.outside c.close_record.result refl
            (λ f o. closes_record (canonised (C.parts n)) C.IS_EXTENSIBLE (C.additions n) (noting x).writer i.writer c.self.inside.writer _ rs xs c.args.outside.0 c.close_record.result (λ m. C.extends.marked m n) o f c.close_record.ensures) h k;
        behaves = behaves_begun (rw (← m) at c.in_ok-check_scope.ensures.begun) c.close_record.ensures.fails c.close_record.ensures.kept;
      };
      untimely = λ x i n h. record_untimely (canonised (C.parts n)) C.IS_EXTENSIBLE (C.additions n) x i _ c.args.outside _ c.close_record.result (λ m. C.extends.marked m n) h (rw (← m) at c.in_ok-check_scope.ensures.complete) c.close_record.ensures;
    })

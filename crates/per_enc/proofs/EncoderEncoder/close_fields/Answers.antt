use Rattle.std.proofs.Common.{refl}
use Rattle.std.proofs.lemmas.Result.{err_from_is_err_and}
use Rattle.per_pieces.specs.Turns.{uncounted}
use Rattle.per_enc.specs.Rules.{noting}
use Rattle.per_enc.proofs.AroundSets.{sequence_closed}
use Rattle.per_enc.proofs.NoOpenSet.{fields_inside}
use Rattle.per_enc.proofs.Records.{closes_record, not_failed_inside}
use Rattle.per_enc.proofs.Noting.{behaves_begun}
use Rattle.per_enc.proofs.EncoderEncoder.close_fields.Goals as goal

pub returns-in_err-check_unfailed : goal.returns-in_err-check_unfailed
returns-in_err-check_unfailed g c =
    let C = g.C.Constructed in
    let p = err_from_is_err_and c.from_residual.result c.from_residual.ensures.1 in
    record {
      law = rw (← c.self.view_is) (λ x i n rs xs h k. absurd (not_failed_inside (C.parts n) C.IS_EXTENSIBLE (C.additions n) (noting x).writer i.writer c.self.inside.writer rs xs c.args.outside.0 h.opened
          (fields_inside (C.parts n) (C.additions n) i _ rs xs h.inside k).0 c.in_err-check_unfailed.ensures.failed));
      behaves = rw (p.1, p.2, ← c.self.view_is) (record { again = λ q. c.in_err-check_unfailed.ensures.err; fails = c.in_err-check_unfailed.ensures.failed; kept = refl });
    }

pub returns : goal.returns
returns g c =
    let C = g.C.Constructed in
    record {
      law = rw (← c.self.view_is) (λ x i n rs xs h k. sequence_closed uncounted (C.parts n) C.IS_EXTENSIBLE (C.additions n) x i _ (record { writer = c.close_record.new.self; set = c.args.outside.1 }) rs xs c.args.outside c.close_record.result refl
          (λ f o. closes_record (C.parts n) C.IS_EXTENSIBLE (C.additions n) (noting x).writer i.writer c.self.inside.writer _ rs xs c.args.outside.0 c.close_record.result (λ m. C.extends.marked m n) o f c.close_record.ensures) h k);
      behaves = rw (← c.self.view_is) (behaves_begun c.in_ok-check_unfailed.ensures.ok c.close_record.ensures.fails c.close_record.ensures.kept);
    }

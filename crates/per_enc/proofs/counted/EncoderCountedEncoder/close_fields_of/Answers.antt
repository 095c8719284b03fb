use Rattle.std.proofs.Common.{refl}
use Rattle.std.proofs.lemmas.Result.{err_from_is_err_and}
use Rattle.per_pieces.specs.Turns.{uncounted}
use Rattle.per_enc.specs.Rules.{noting}
use Rattle.per_enc.proofs.AroundSets.{sequence_closed}
use Rattle.per_enc.proofs.NoOpenSet.{fields_inside}
use Rattle.per_enc.proofs.Records.{closes_record, not_failed_inside}
use Rattle.per_enc.proofs.Noting.{behaves_begun}
use Rattle.per_enc.proofs.counted.EncoderCountedEncoder.close_fields_of.Goals as goal

pub returns-in_err-check_unfailed : goal.returns-in_err-check_unfailed
returns-in_err-check_unfailed g c =
    let p = err_from_is_err_and c.from_residual.result c.from_residual.ensures.1 in
    record {
      closed = λ ps marker adds w. record {
        law = rw (← c.self.view_is) (λ x i n rs xs h k. absurd (not_failed_inside (ps n) marker (adds n) (noting x).writer i.writer c.self.inside.writer rs xs c.args.outside.0 h.opened
            (fields_inside (ps n) (adds n) i _ rs xs h.inside k).0 c.in_err-check_unfailed.ensures.failed));
        behaves = rw (p.1, p.2, ← c.self.view_is) (record { again = λ q. c.in_err-check_unfailed.ensures.err; fails = c.in_err-check_unfailed.ensures.failed; kept = refl });
      };
      behaves = rw (p.1, p.2, ← c.self.view_is) (record { again = λ q. c.in_err-check_unfailed.ensures.err; fails = c.in_err-check_unfailed.ensures.failed; kept = refl });
    }

pub returns : goal.returns
returns g c =
    record {
      closed = λ ps marker adds w. record {
        law = rw (← c.self.view_is) (λ x i n rs xs h k. sequence_closed uncounted (ps n) marker (adds n) x i _ (record { writer = c.close_record.new.self; set = c.args.outside.1 }) rs xs c.args.outside c.close_record.result refl
            (λ f o. closes_record (ps n) marker (adds n) (noting x).writer i.writer c.self.inside.writer _ rs xs c.args.outside.0 c.close_record.result (λ m. w m n) o f c.close_record.ensures) h k);
        behaves = rw (← c.self.view_is) (behaves_begun c.in_ok-check_unfailed.ensures.ok c.close_record.ensures.fails c.close_record.ensures.kept);
      };
      behaves = rw (← c.self.view_is) (behaves_begun c.in_ok-check_unfailed.ensures.ok c.close_record.ensures.fails c.close_record.ensures.kept);
    }

use Rattle.std.proofs.Common.{ap, refl, ◌∙◌, Some}
use Rattle.std.proofs.lemmas.Result.{err_from_is_err_and}
use Rattle.per_write.specs.WriterState.{WriterState}
use Rattle.per_pieces.specs.Turns.{awaits, is_complete}
use Rattle.per_enc.proofs.AroundSets.{addition_closed}
use Rattle.per_enc.proofs.GivenAdditions.{closed}
use Rattle.per_enc.proofs.NoOpenSet.{value_inside}
use Rattle.per_enc.proofs.Noting.{behaves_begun}
use Rattle.per_enc.proofs.Turns.{addition_untimely, behaves_unclosed, not_unclosed, unclosed_untimely, unfailed_in_addition}
use Rattle.per_enc.proofs.EncoderEncoder.close_addition.Goals as goal

pub returns-in_err-check_scope : goal.returns-in_err-check_scope
returns-in_err-check_scope g c =
    let p = err_from_is_err_and c.from_residual.result c.from_residual.ensures.1 in
    let j = c.args.self.now in
    let u = c.in_err-check_scope.ensures.err in
    rw (p.1, p.2) (record {
      law = λ x i s v h w. absurd (not_unclosed _ j u w.written.left (ap is_complete (value_inside i j s v h.inside w).1));
      untimely = λ x i h. unclosed_untimely _ i j (awaits 1) _ h.inside (unfailed_in_addition x i c.args.addition h) u;
      behaves = behaves_unclosed _ j _ u c.in_err-check_scope.ensures.fails c.in_err-check_scope.ensures.kept;
    })

pub returns : goal.returns
returns g c =
    let m = c.self.view_is ∙ c.in_ok-check_scope.ensures.stays in
    rw (← m) (record {
      law = λ x i s v h w. addition_closed s (Some v) x (record { writer = c.close_addition.new.self; set = c.args.addition.1 }) c.close_addition.result h.waits
          (closed x.writer i.writer c.self.inside.writer _ c.args.addition.0 s v c.close_addition.result h.opened (value_inside i _ s v h.inside w).0 c.close_addition.ensures);
      untimely = λ x i h. addition_untimely x i _ c.args.addition c.close_addition.result h (rw (← m) at c.in_ok-check_scope.ensures.complete);
      behaves = behaves_begun (rw (← m) at c.in_ok-check_scope.ensures.begun) c.close_addition.ensures.fails c.close_addition.ensures.kept;
    })

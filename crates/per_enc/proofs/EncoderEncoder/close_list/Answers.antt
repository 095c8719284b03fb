use Rattle.std.proofs.Common.{◌∙◌}
use Rattle.std.proofs.lemmas.Result.{err_from_is_err_and}
use Rattle.per_enc.proofs.ListsInTurn.{list_closed, list_untimely, list_without_scope}
use Rattle.per_enc.proofs.EncoderEncoder.close_list.Goals as goal
use Rattle.per_enc.proofs.EncoderEncoder.close_list.Goals.{in-Some, in_default}

pub returns-in_err-check_between : goal.returns-in_err-check_between
returns-in_err-check_between g c =
    let p = err_from_is_err_and c.from_residual.result c.from_residual.ensures.1 in
    rw (p.1, p.2) (list_untimely c.args.list.0 c.args.list.1 c.args.self.now _ _ c.in_err-check_between.ensures.err c.in_err-check_between.ensures.fails c.in_err-check_between.ensures.kept)

pub returns : goal.returns
returns g c =
    let m = c.self.view_is ∙ c.in_ok-check_between.ensures.stays in
    elim c.match-scope.branch [
      | in-Some w ↦ rw (← m, w.self-inside-is, w.leave.ensures) (list_closed c.args.list.0.0 c.args.list.0.1 w.in-Some.scope c.args.list.1 (record { writer = c.self.inside.writer; set = c.self.inside.set }) c.close_list-closed.new.writer c.close_list-closed.result w.in-Some.is
          (rw (← m) at c.in_ok-check_between.ensures.begun) (rw (← m) at c.in_ok-check_between.ensures.between) c.close_list-closed.ensures)
      | in_default w ↦ rw (← m, w.self-inside-is) (list_without_scope c.args.list.0.0 c.args.list.0.1 c.args.list.1 (record { writer = c.self.inside.writer; set = c.self.inside.set }) c.close_list-closed.new.writer c.close_list-closed.result w.in_default.is
          (rw (← m) at c.in_ok-check_between.ensures.begun) (rw (← m) at c.in_ok-check_between.ensures.between) c.close_list-closed.ensures)
    ]

use Rattle.std.proofs.Common.{◌∙◌}
use Rattle.std.proofs.lemmas.Result.{err_from_is_err_and}
use Rattle.per_enc.proofs.ListsInTurn.{member_next, member_untimely}
use Rattle.per_enc.proofs.EncoderEncoder.next_member.Goals as goal

pub returns-in_err-check_between : goal.returns-in_err-check_between
returns-in_err-check_between g c =
    let p = err_from_is_err_and c.from_residual.result c.from_residual.ensures.1 in
    rw (p.1, p.2) (member_untimely c.args.bag.now.0 c.args.bag.now.0 c.args.bag.now.1 c.args.self.now _ _ c.in_err-check_between.ensures.err c.in_err-check_between.ensures.fails c.in_err-check_between.ensures.kept)

pub returns-in_err-next_member : goal.returns-in_err-next_member
returns-in_err-next_member g c =
    let p = err_from_is_err_and c.from_residual-in_err-next_member.result c.from_residual-in_err-next_member.ensures.1 in
    let m = c.self.view_is ∙ c.in_ok-check_between.ensures.stays in
    rw (p.1, p.2, ← m) (member_next c.args.bag.now.0.0 c.next_member.new.self c.args.bag.now.0.1 c.args.bag.now.1 (record { writer = c.self.inside.writer; set = c.self.inside.set }) (record { writer = c.next_member.new.writer; set = c.self.inside.set }) _
    (rw (← m) at c.in_ok-check_between.ensures.begun) (rw (← m) at c.in_ok-check_between.ensures.between) tt c.in_err-next_member.ensures)

pub returns : goal.returns
returns g c =
    let m = c.self.view_is ∙ c.in_ok-check_between.ensures.stays in
    rw (← m) (member_next c.args.bag.now.0.0 c.next_member.new.self c.args.bag.now.0.1 c.args.bag.now.1 (record { writer = c.self.inside.writer; set = c.self.inside.set }) (record { writer = c.next_member.new.writer; set = c.in_list.result }) _
    (rw (← m) at c.in_ok-check_between.ensures.begun) (rw (← m) at c.in_ok-check_between.ensures.between) c.in_list.ensures c.in_ok-next_member.ensures)

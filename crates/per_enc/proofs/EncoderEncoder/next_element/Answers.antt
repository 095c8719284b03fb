use Rattle.std.proofs.Common.{◌∙◌}
use Rattle.std.proofs.lemmas.Result.{err_from_is_err_and}
use Rattle.per_enc.proofs.ListsInTurn.{element_next, element_untimely}
use Rattle.per_enc.proofs.EncoderEncoder.next_element.Goals as goal

pub returns-in_err-check_between : goal.returns-in_err-check_between
returns-in_err-check_between g c =
    let p = err_from_is_err_and c.from_residual.result c.from_residual.ensures.1 in
    rw (p.1, p.2) (element_untimely c.args.list.now.0 c.args.list.now.0 c.args.list.now.1 c.args.self.now _ _ c.in_err-check_between.ensures.err c.in_err-check_between.ensures.fails c.in_err-check_between.ensures.kept)

pub returns-in_err-next_element : goal.returns-in_err-next_element
returns-in_err-next_element g c =
    let p = err_from_is_err_and c.from_residual-in_err-next_element.result c.from_residual-in_err-next_element.ensures.1 in
    let m = c.self.view_is ∙ c.in_ok-check_between.ensures.stays in
    rw (p.1, p.2, ← m) (element_next c.args.list.now.0.0 c.next_element.new.list c.args.list.now.0.1 c.args.list.now.1 (record { writer = c.self.inside.writer; set = c.self.inside.set }) (record { writer = c.next_element.new.writer; set = c.self.inside.set }) _
    (rw (← m) at c.in_ok-check_between.ensures.begun) (rw (← m) at c.in_ok-check_between.ensures.between) tt c.in_err-next_element.ensures)

pub returns : goal.returns
returns g c =
    let m = c.self.view_is ∙ c.in_ok-check_between.ensures.stays in
    rw (← m) (element_next c.args.list.now.0.0 c.next_element.new.list c.args.list.now.0.1 c.args.list.now.1 (record { writer = c.self.inside.writer; set = c.self.inside.set }) (record { writer = c.next_element.new.writer; set = c.in_list.result }) _
    (rw (← m) at c.in_ok-check_between.ensures.begun) (rw (← m) at c.in_ok-check_between.ensures.between) c.in_list.ensures c.in_ok-next_element.ensures)

use Rattle.std.proofs.Common.{Bool, IfOk, subst, sym}
use Rattle.message_lines.specs.Replies.{IsPrinted}
use Rattle.message_lines.proofs.print.answer_by.Goals as goal

pub returns-then-is_checked : goal.returns-then-is_checked
returns-then-is_checked c =
    subst (λ (b : Bool). IfOk c.checked_answer.result (λ answer. IsPrinted b c.args.messages.now c.args.layout c.args.octets.now answer.items)) (sym c.if-is_checked.true) c.checked_answer.ensures

pub returns-else-is_checked : goal.returns-else-is_checked
returns-else-is_checked c =
    subst (λ (b : Bool). IfOk c.answer_to_octets.result (λ answer. IsPrinted b c.args.messages.now c.args.layout c.args.octets.now answer.items)) (sym c.if-is_checked.false) c.answer_to_octets.ensures

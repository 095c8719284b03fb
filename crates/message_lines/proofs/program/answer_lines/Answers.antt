use Rattle.message_lines.proofs.program.answer_lines.Goals as goal

pub returns-in-Ok : goal.returns-in-Ok
returns-in-Ok g c = λ e. rw c.if-is_strict.false c.in-Ok.ensures.ok

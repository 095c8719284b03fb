use Rattle.per_table.proofs.reply.answer_to.Goals as goal

pub returns-in-Recode-clause-ok : goal.returns-in-Recode-clause-ok
returns-in-Recode-clause-ok c = rw c.in-Recode.is c.recoded.ensures.ok

pub returns-in-Show-clause-ok : goal.returns-in-Show-clause-ok
returns-in-Show-clause-ok c = rw c.in-Show.is c.shown.ensures.ok

pub returns-in-Make-clause-ok : goal.returns-in-Make-clause-ok
returns-in-Make-clause-ok c = rw c.in-Make.is c.made.ensures.ok

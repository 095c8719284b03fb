use Rattle.std.proofs.Common.{rules}
use Rattle.per_c.proofs.tables.answer_by.Goals as goal

pub returns-in_ok-recode-in-Recode-clause-ok : goal.returns-in_ok-recode-in-Recode-clause-ok
returns-in_ok-recode-in-Recode-clause-ok c = rw c.in-Recode.is c.in_ok-recode-in-Recode.ensures.ok

pub returns-in_ok-show-in-ToJson-clause-ok : goal.returns-in_ok-show-in-ToJson-clause-ok
returns-in_ok-show-in-ToJson-clause-ok c = rw c.in-ToJson.is c.in_ok-show-in-ToJson.ensures.ok

pub returns-in_ok-make-in-FromJson-clause-ok : goal.returns-in_ok-make-in-FromJson-clause-ok
returns-in_ok-make-in-FromJson-clause-ok c = rw c.in-FromJson.is c.in_ok-make-in-FromJson.ensures.ok

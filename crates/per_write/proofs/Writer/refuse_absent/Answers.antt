use Rattle.std.proofs.Common.{rules}
use Rattle.per_write.proofs.Refusing.{absent_refused}
use Rattle.per_write.proofs.Writer.refuse_absent.Goals as goal

pub returns : goal.returns
returns g c = record { law = absent_refused _ _ c.refuse.ensures.error; behaves = search rules }

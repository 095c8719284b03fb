use Rattle.std.proofs.Common.{rules}
use Rattle.per_write.proofs.Refusing.{real_refused}
use Rattle.per_write.proofs.Writer.refuse_real.Goals as goal

pub returns : goal.returns
returns g c = record { law = real_refused _ _ c.refuse.ensures.error; behaves = search rules }

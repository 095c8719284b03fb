use Rattle.std.proofs.Common.{rules}
use Rattle.per_write.proofs.OtherKinds.{other_refused}
use Rattle.per_write.proofs.Writer.refuse_other.Goals as goal

pub returns : goal.returns
returns g c = record { law = other_refused _ _ c.refuse.ensures.error; behaves = search rules }

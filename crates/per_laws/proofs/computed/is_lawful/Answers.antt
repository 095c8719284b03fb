use Rattle.per_laws.proofs.computed.is_lawful.Goals as goal
use Rattle.per_laws.proofs.Judged.{judged_type}

pub returns : goal.returns
returns g c = judged_type (g.T.AsnType.schema g.T.AsnType.CONSTRAINTS) (g.T.AsnType.levelled g.T.AsnType.CONSTRAINTS) c.requires

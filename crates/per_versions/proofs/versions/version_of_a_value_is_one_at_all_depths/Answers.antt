use Rattle.per_versions.proofs.Depths.{projection_at, widening_at}
use Rattle.per_versions.proofs.versions.version_of_a_value_is_one_at_all_depths.Goals as goal

pub returns : goal.returns
returns g c = λ k v w n h. (projection_at (g.New.AsnType.schema g.New.AsnType.CONSTRAINTS) (g.Old.AsnType.schema g.Old.AsnType.CONSTRAINTS) (g.New.AsnType.levelled g.New.AsnType.CONSTRAINTS) (g.Old.AsnType.levelled g.Old.AsnType.CONSTRAINTS) k v w n h, widening_at (g.New.AsnType.schema g.New.AsnType.CONSTRAINTS) (g.Old.AsnType.schema g.Old.AsnType.CONSTRAINTS) (g.New.AsnType.levelled g.New.AsnType.CONSTRAINTS) (g.Old.AsnType.levelled g.Old.AsnType.CONSTRAINTS) k v w n h)

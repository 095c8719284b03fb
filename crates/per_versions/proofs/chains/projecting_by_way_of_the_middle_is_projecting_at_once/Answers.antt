use Rattle.per_versions.proofs.Laws
use Rattle.per_versions.proofs.chains.projecting_by_way_of_the_middle_is_projecting_at_once.Goals as goal

pub returns : goal.returns
returns g c = Laws.in_steps (g.Newest.AsnType.schema g.Newest.AsnType.CONSTRAINTS) (g.Middle.AsnType.schema g.Middle.AsnType.CONSTRAINTS) (g.Oldest.AsnType.schema g.Oldest.AsnType.CONSTRAINTS) (g.Newest.AsnType.levelled g.Newest.AsnType.CONSTRAINTS) (g.Middle.AsnType.levelled g.Middle.AsnType.CONSTRAINTS) (g.Oldest.AsnType.levelled g.Oldest.AsnType.CONSTRAINTS)

use Rattle.per_versions.proofs.Laws
use Rattle.per_versions.proofs.chains.newest_is_newer_than_the_oldest.Goals as goal

pub returns : goal.returns
returns g c = Laws.transitive (g.Newest.AsnType.schema g.Newest.AsnType.CONSTRAINTS) (g.Middle.AsnType.schema g.Middle.AsnType.CONSTRAINTS) (g.Oldest.AsnType.schema g.Oldest.AsnType.CONSTRAINTS)

use Rattle.per_laws.proofs.versions.two_versions_read_the_projection.Goals as goal
use Rattle.per_laws.proofs.Readers

pub returns : goal.returns
returns c = Readers.older_is_projection

use Rattle.per_laws.proofs.versions.older_version_refuses_without_projection.Goals as goal
use Rattle.per_laws.proofs.Readers

pub returns : goal.returns
returns c = Readers.older_refuses

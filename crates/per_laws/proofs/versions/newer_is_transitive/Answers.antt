use Rattle.per_laws.proofs.versions.newer_is_transitive.Goals as goal
use Rattle.per_laws.proofs.Transitive

pub returns : goal.returns
returns c = Transitive.newer_transitive

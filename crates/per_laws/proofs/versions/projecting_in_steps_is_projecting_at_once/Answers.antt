use Rattle.per_laws.proofs.versions.projecting_in_steps_is_projecting_at_once.Goals as goal
use Rattle.per_laws.proofs.Chains

pub returns : goal.returns
returns c = Chains.projects_in_steps

use Rattle.per_laws.proofs.versions.widening_in_steps_is_widening_at_once.Goals as goal
use Rattle.per_laws.proofs.Transitive

pub returns : goal.returns
returns c = Transitive.widens_in_steps

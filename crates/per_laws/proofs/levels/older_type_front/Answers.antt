use Rattle.per_laws.proofs.levels.older_type_front.Goals as goal
use Rattle.per_laws.proofs.Peers

pub returns : goal.returns
returns c = Peers.older_type_front

use Rattle.per_laws.proofs.levels.type_front.Goals as goal
use Rattle.per_laws.proofs.Peers

pub returns : goal.returns
returns c = Peers.type_front

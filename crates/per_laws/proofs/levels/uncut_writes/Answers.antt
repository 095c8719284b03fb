use Rattle.per_laws.proofs.levels.uncut_writes.Goals as goal
use Rattle.per_laws.proofs.Peers

pub returns : goal.returns
returns c = Peers.uncut_writes

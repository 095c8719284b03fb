use Rattle.per_laws.proofs.levels.deeper_writes.Goals as goal
use Rattle.per_laws.proofs.Depths

pub returns : goal.returns
returns c = Depths.deeper_writes

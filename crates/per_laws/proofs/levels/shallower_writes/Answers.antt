use Rattle.per_laws.proofs.levels.shallower_writes.Goals as goal
use Rattle.per_laws.proofs.Depths

pub returns : goal.returns
returns c = Depths.shallower_writes

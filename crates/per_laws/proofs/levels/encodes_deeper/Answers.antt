use Rattle.per_laws.proofs.levels.encodes_deeper.Goals as goal
use Rattle.per_laws.proofs.Depths

pub returns : goal.returns
returns c = Depths.encodes_deeper

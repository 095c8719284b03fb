use Rattle.per_laws.proofs.levels.type_reads.Goals as goal
use Rattle.per_laws.proofs.Depths

pub returns : goal.returns
returns c = Depths.type_reads

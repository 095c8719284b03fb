use Rattle.per_laws.proofs.levels.shallower_tree_reads.Goals as goal
use Rattle.per_laws.proofs.Depths

pub returns : goal.returns
returns c = Depths.shallower_tree_reads

use Rattle.per_laws.proofs.depth.deeper_tree_reads_the_same.Goals as goal
use Rattle.per_laws.proofs.Readers

pub returns : goal.returns
returns c = Readers.deeper_reads

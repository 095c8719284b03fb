use Rattle.per_laws.proofs.depth.shallower_tree_reads_what_it_holds.Goals as goal
use Rattle.per_laws.proofs.Readers

pub returns : goal.returns
returns c = Readers.shallower_reads

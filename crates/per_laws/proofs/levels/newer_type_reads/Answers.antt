use Rattle.per_laws.proofs.levels.newer_type_reads.Goals as goal
use Rattle.per_laws.proofs.Peers

pub returns : goal.returns
returns c = Peers.newer_type_reads

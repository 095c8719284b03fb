use Rattle.per_laws.proofs.versions.older_reader_reads_the_projection.Goals as goal
use Rattle.per_laws.proofs.AnyDepth

pub returns : goal.returns
returns c = AnyDepth.older_reader_reads

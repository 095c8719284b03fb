use Rattle.per_laws.proofs.versions.newer_reader_reads_the_widening.Goals as goal
use Rattle.per_laws.proofs.AnyDepth

pub returns : goal.returns
returns c = AnyDepth.newer_reader_reads

use Rattle.per_laws.proofs.lawful.newer_lawful_reader_reads_the_widening.Goals as goal
use Rattle.per_laws.proofs.LawfulTrees

pub returns : goal.returns
returns c = LawfulTrees.newer_reader_reads

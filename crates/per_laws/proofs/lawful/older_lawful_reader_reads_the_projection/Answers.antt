use Rattle.per_laws.proofs.lawful.older_lawful_reader_reads_the_projection.Goals as goal
use Rattle.per_laws.proofs.LawfulTrees

pub returns : goal.returns
returns c = LawfulTrees.older_reader_reads

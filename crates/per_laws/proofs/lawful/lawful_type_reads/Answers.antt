use Rattle.per_laws.proofs.lawful.lawful_type_reads.Goals as goal
use Rattle.per_laws.proofs.LawfulTrees

pub returns : goal.returns
returns c = LawfulTrees.reads

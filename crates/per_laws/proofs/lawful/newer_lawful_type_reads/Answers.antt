use Rattle.per_laws.proofs.lawful.newer_lawful_type_reads.Goals as goal
use Rattle.per_laws.proofs.LawfulTrees

pub returns : goal.returns
returns c = LawfulTrees.newer_reads

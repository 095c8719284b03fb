use Rattle.per_laws.proofs.lawful.older_lawful_type_reads.Goals as goal
use Rattle.per_laws.proofs.LawfulTrees

pub returns : goal.returns
returns c = LawfulTrees.older_reads

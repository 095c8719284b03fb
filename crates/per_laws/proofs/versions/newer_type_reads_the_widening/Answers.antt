use Rattle.per_laws.proofs.versions.newer_type_reads_the_widening.Goals as goal
use Rattle.per_laws.proofs.Types

pub returns : goal.returns
returns c = Types.newer_type_answers

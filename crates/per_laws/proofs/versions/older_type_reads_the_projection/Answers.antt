use Rattle.per_laws.proofs.versions.older_type_reads_the_projection.Goals as goal
use Rattle.per_laws.proofs.Types

pub returns : goal.returns
returns c = Types.older_type_answers

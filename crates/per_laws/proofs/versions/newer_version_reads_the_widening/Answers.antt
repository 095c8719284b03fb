use Rattle.per_laws.proofs.versions.newer_version_reads_the_widening.Goals as goal
use Rattle.per_laws.proofs.Readers

pub returns : goal.returns
returns c = Readers.newer_answers

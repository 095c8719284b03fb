use Rattle.per_laws.proofs.named_bits.newer_version_reads_the_widening_whichever_bits_have_names.Goals as goal
use Rattle.per_laws.proofs.Nameless

pub returns : goal.returns
returns c = Nameless.newer_answers

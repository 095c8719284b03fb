use Rattle.per_laws.proofs.named_bits.newer_version_is_one_but_for_names.Goals as goal
use Rattle.per_laws.proofs.Nameless

pub returns : goal.returns
returns c = λ newer older n. Nameless.newer_stays n

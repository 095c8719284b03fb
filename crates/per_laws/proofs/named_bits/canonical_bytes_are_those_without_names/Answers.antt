use Rattle.per_laws.proofs.named_bits.canonical_bytes_are_those_without_names.Goals as goal
use Rattle.per_laws.proofs.Nameless

pub returns-clause-written : goal.returns-clause-written
returns-clause-written c = Nameless.same_bytes

pub returns-clause-normal : goal.returns-clause-normal
returns-clause-normal c = Nameless.normal_stays

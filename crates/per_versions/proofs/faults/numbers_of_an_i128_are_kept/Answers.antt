use Rattle.per_versions.proofs.Families.{bounded, held}
use Rattle.per_versions.proofs.faults.numbers_of_an_i128_are_kept.Goals as goal

pub returns-clause-held : goal.returns-clause-held
returns-clause-held c = held

pub returns-clause-bounded : goal.returns-clause-bounded
returns-clause-bounded c = bounded

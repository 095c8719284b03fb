use Rattle.per_laws.proofs.lawful.lawful_types_are_versions_where_one_succeeds_the_other.Goals as goal
use Rattle.per_laws.proofs.VersionOfItself.{newer_than_itself}
use Rattle.per_laws.proofs.Successors.{successors_are_newer}

pub returns : goal.returns
returns c = λ newer older u l. successors_are_newer newer older u l.unfolds (newer_than_itself older l)

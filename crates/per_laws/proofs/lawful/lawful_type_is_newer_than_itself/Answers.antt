use Rattle.per_laws.proofs.lawful.lawful_type_is_newer_than_itself.Goals as goal
use Rattle.per_laws.proofs.VersionOfItself

pub returns : goal.returns
returns c = VersionOfItself.newer_than_itself

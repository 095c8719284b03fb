use Rattle.per_laws.proofs.versions.newer_types_are_extension_successors.Goals as goal
use Rattle.per_laws.proofs.Successors

pub returns : goal.returns
returns c = Successors.successors_are_newer

use Rattle.per_laws.proofs.by_parts.list_of_a_newer_type_is_newer.Goals as goal
use Rattle.per_laws.proofs.Components

pub returns : goal.returns
returns c = Components.list_newer

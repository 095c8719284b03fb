use Rattle.per_laws.proofs.by_parts.record_of_newer_components_is_newer.Goals as goal
use Rattle.per_laws.proofs.Components

pub returns : goal.returns
returns c = Components.record_newer

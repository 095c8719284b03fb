use Rattle.per_laws.proofs.by_parts.contents_of_a_newer_type_are_newer.Goals as goal
use Rattle.per_laws.proofs.Components

pub returns : goal.returns
returns c = Components.contents_newer

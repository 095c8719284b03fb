use Rattle.per_laws.proofs.by_parts.more_items_make_a_newer_version.Goals as goal
use Rattle.per_laws.proofs.Components

pub returns : goal.returns
returns c = Components.items_added

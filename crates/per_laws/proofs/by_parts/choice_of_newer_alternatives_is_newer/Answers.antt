use Rattle.per_laws.proofs.by_parts.choice_of_newer_alternatives_is_newer.Goals as goal
use Rattle.per_laws.proofs.Components

pub returns : goal.returns
returns c = Components.choice_newer

use Rattle.std.proofs.Common.{length}
use Rattle.per_messages.proofs.apart.+are_components_apart.Given as goal

abbrev pub decreases-are_components_apart : goal.decreases-are_components_apart
decreases-are_components_apart l = length l.components.now

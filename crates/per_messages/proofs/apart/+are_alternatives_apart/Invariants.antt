use Rattle.std.proofs.Common.{length}
use Rattle.per_messages.proofs.apart.+are_alternatives_apart.Given as goal

abbrev pub decreases-are_alternatives_apart : goal.decreases-are_alternatives_apart
decreases-are_alternatives_apart l = length l.alternatives.now

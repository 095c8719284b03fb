use Rattle.std.proofs.Common.{length}
use Rattle.per_messages.proofs.apart.+are_additions_apart.Given as goal

abbrev pub decreases-are_additions_apart : goal.decreases-are_additions_apart
decreases-are_additions_apart l = length l.additions.now

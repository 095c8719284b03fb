use Rattle.std.proofs.Common.{length}
use Rattle.per_messages.proofs.apart.+are_items_apart.Given as goal

abbrev pub decreases-are_items_apart : goal.decreases-are_items_apart
decreases-are_items_apart l = length l.items.now

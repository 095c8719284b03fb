use Rattle.std.proofs.Common.{length}
use Rattle.per_messages.proofs.located.+added_type.Given as goal

abbrev pub decreases-added_type : goal.decreases-added_type
decreases-added_type l = length l.additions.now

use Rattle.std.proofs.Common.{length}
use Rattle.per_messages.proofs.located.+missing_in.Given as goal

abbrev pub decreases-missing_in : goal.decreases-missing_in
decreases-missing_in l = length l.components.now

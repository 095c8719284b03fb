use Rattle.std.proofs.Common.{length}
use Rattle.per_messages.proofs.located.+component_type.Given as goal

abbrev pub decreases-component_type : goal.decreases-component_type
decreases-component_type l = length l.components.now

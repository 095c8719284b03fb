use Rattle.std.proofs.Common.{length}
use Rattle.rasn_dynamic.proofs.values.+value_named.Given as goal

abbrev pub decreases-value_named : goal.decreases-value_named
decreases-value_named l = length l.components.now

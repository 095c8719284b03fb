use Rattle.std.proofs.Common.{length}
use Rattle.rasn_dynamic_codec.proofs.write.+fit.Given as goal

abbrev pub decreases-fit : goal.decreases-fit
decreases-fit l = length l.components.now

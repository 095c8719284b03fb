use Rattle.std.proofs.Common.{length}
use Rattle.rasn_dynamic.proofs.types.+first_place.Given as goal

abbrev pub decreases-first_place : goal.decreases-first_place
decreases-first_place l = length l.names.now

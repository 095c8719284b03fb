use Rattle.std.proofs.Common.{◌-◌}
use Rattle.per_samples_b.proofs.additions.+decode_from.Given as goal

abbrev pub decreases-decode_from : goal.decreases-decode_from
decreases-decode_from g l = 65 - l.place

use Rattle.std.proofs.Common.{length}
use Rattle.per_samples_b.proofs.additions.+encode_from.Given as goal

abbrev pub decreases-encode_from : goal.decreases-encode_from
decreases-encode_from g l = length l.options.now

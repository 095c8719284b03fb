use Rattle.std.proofs.Common.{◌≡◌}
use Rattle.rasn_below.specs.Values.{sequence_value}
use Rattle.per_samples_c.specs.Deeps.{nest_with}
use Rattle.per_samples_c.specs.Nests.{nest_contents}
use Rattle.per_samples_c.proofs.deep.default.Given as goal

abbrev pub invariant-loop : goal.invariant-loop
invariant-loop l = sequence_value (nest_contents l.nest) ≡ nest_with l.counter

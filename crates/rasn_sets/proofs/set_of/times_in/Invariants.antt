use Rattle.std.proofs.Common.{◌≡◌, ◌+◌, ◌≤◌, drop}
use Rattle.rasn_sets.specs.Equality.{times}
use Rattle.rasn_sets.proofs.set_of.times_in.Given as goal

abbrev pub invariant-loop-member : goal.invariant-loop-member
invariant-loop-member g l =
    (l.times + times g.T.PartialEq.eq l.value (drop l.member-index l.members) ≡ times g.T.PartialEq.eq l.value l.members) × (l.times ≤ l.member-index)

use Rattle.std.proofs.Common.{◌≡◌, drop}
use Rattle.rasn_sets.specs.Equality.{stand_alike}
use Rattle.rasn_sets.proofs.set_of.stand_as_often.Given as goal

abbrev pub invariant-loop-value : goal.invariant-loop-value
invariant-loop-value g l =
    stand_alike g.T.PartialEq.eq l.members l.others (drop l.value-index l.values) ≡ stand_alike g.T.PartialEq.eq l.members l.others l.values

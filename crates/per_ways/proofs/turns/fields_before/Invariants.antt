use Rattle.std.proofs.Common.{◌≡◌, take, count_by}
use Rattle.per_ways.specs.Turns.{is_before}
use Rattle.per_ways.proofs.turns.fields_before.Given as goal

abbrev pub invariant-loop-other : goal.invariant-loop-other
invariant-loop-other l = l.count ≡ count_by (λ other. is_before other l.field) (take l.other-index l.list)

use Rattle.per_read.specs.SmallNumbers.{MeansSince}
use Rattle.per_read.proofs.OneByOne.{FirstItems}
use Rattle.per_read.proofs.in_place.with_octets.Given as goal

abbrev pub invariant-loop : goal.invariant-loop
invariant-loop l = FirstItems MeansSince 8 l.initial.left.bits l.left.bits l.initial.number l.number l.counter l.count

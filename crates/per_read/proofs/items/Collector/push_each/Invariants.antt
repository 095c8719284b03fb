use Rattle.std.proofs.Common.{◌≡◌, ◌≤◌, ◌+◌}
use Rattle.rasn_types.specs.Bits.{to_bits}
use Rattle.per_read.proofs.OneByOne.{FirstItems}
use Rattle.per_read.proofs.items.Collector.push_each.Given as goal

abbrev pub invariant-loop : goal.invariant-loop
invariant-loop g l = record {
  short : l.left ≤ 56;
  first : FirstItems g.Self.Collector.holds l.width (to_bits l.fn.length l.word) (to_bits l.left l.word) l.initial.self l.self l.counter l.many;
  same : g.Self.Collector.item l.self ≡ g.Self.Collector.item l.initial.self;
  few : g.Self.Collector.count l.self ≤ g.Self.Collector.count l.initial.self + l.counter;
}

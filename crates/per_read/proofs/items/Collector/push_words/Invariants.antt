use Rattle.std.proofs.Common.{◌≡◌, ◌≤◌, ◌+◌, ◌-◌}
use Rattle.per_read.proofs.OneByOne.{FirstItems}
use Rattle.per_read.proofs.items.Collector.push_words.Given as goal

abbrev pub invariant-loop-done : goal.invariant-loop-done
invariant-loop-done g l = record {
  first : FirstItems g.Self.Collector.holds l.width l.initial.left.bits l.left.bits l.initial.self l.self l.done l.many;
  same : g.Self.Collector.item l.self ≡ g.Self.Collector.item l.initial.self;
  few : g.Self.Collector.count l.self ≤ g.Self.Collector.count l.initial.self + l.done;
}

abbrev pub decreases-loop-done : goal.decreases-loop-done
decreases-loop-done g l = l.many - l.done

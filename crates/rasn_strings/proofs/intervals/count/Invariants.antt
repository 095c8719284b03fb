use Rattle.std.proofs.Common.{◌≡◌, ◌+◌, true, length, drop}
use Rattle.rasn_strings.specs.Intervals.{expand, ascend_from}
use Rattle.rasn_strings.proofs.intervals.count.Given as goal

abbrev pub invariant-loop-interval : goal.invariant-loop-interval
invariant-loop-interval l = record {
  ascends : ascend_from 0 (drop l.interval-index l.intervals) ≡ true;
  counted : l.count + length (expand (drop l.interval-index l.intervals)) ≡ length (expand l.intervals);
}

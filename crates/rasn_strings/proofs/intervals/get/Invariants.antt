use Rattle.std.proofs.Common.{◌≡◌, true, slice_get, drop}
use Rattle.rasn_strings.specs.Intervals.{expand, ascend_from}
use Rattle.rasn_strings.proofs.intervals.get.Given as goal

abbrev pub invariant-loop-interval : goal.invariant-loop-interval
invariant-loop-interval l = record {
  ascends : ascend_from 0 (drop l.interval-index l.intervals) ≡ true;
  passed : slice_get (expand (drop l.interval-index l.intervals)) l.left ≡ slice_get (expand l.intervals) l.fn.index;
}

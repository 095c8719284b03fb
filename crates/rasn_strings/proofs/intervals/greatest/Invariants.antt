use Rattle.std.proofs.Common.{◌≡◌, max, true, drop}
use Rattle.rasn_strings.specs.Intervals.{expand, ascend_from}
use Rattle.rasn_types.specs.Alphabets.{greatest}
use Rattle.rasn_strings.proofs.intervals.greatest.Given as goal

abbrev pub invariant-loop-interval : goal.invariant-loop-interval
invariant-loop-interval l = record {
  ascends : ascend_from 0 (drop l.interval-index l.intervals) ≡ true;
  passed : max (greatest (expand (drop l.interval-index l.intervals))) l.greatest ≡ greatest (expand l.intervals);
}

use Rattle.std.proofs.Common.{◌≡◌, ◌+◌, true, length, drop}
use Rattle.rasn_strings.specs.Intervals.{expand, ascend_from}
use Rattle.rasn_types.specs.Alphabets.{index_of}
use Rattle.rasn_strings.proofs.IntervalsOf.{later}
use Rattle.rasn_strings.proofs.intervals.index_of.Given as goal

abbrev pub invariant-loop-interval : goal.invariant-loop-interval
invariant-loop-interval l = record {
  ascends : ascend_from 0 (drop l.interval-index l.intervals) ≡ true;
  counted : l.before + length (expand (drop l.interval-index l.intervals)) ≡ length (expand l.intervals);
  passed : later l.before (index_of l.character (expand (drop l.interval-index l.intervals))) ≡ index_of l.character (expand l.intervals);
}

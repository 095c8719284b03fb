use Rattle.std.proofs.Common.{arith}
use Rattle.rasn_strings.proofs.IntervalsOf.{step_at, greatest_next}
use Rattle.rasn_strings.proofs.intervals.greatest.Goals as goal

pub loop-interval-preserved : goal.loop-interval-preserved
loop-interval-preserved c = record {
  ascends = (step_at c.args.intervals.now c.loop-interval.interval-index 0 c.loop-interval-test.true c.loop-interval.invariant.ascends).rest;
  passed = let n = greatest_next c.args.intervals.now c.loop-interval.interval-index c.loop-interval-test.true (step_at c.args.intervals.now c.loop-interval.interval-index 0 c.loop-interval-test.true c.loop-interval.invariant.ascends).ordered in let m = c.max-greatest.ensures in let p = c.loop-interval.invariant.passed in omega arith;
}

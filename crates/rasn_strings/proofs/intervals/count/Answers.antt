use Rattle.std.proofs.Common.{arith}
use Rattle.rasn_strings.proofs.IntervalsOf.{step_at, length_next, length-expand}
use Rattle.rasn_strings.proofs.intervals.count.Goals as goal

pub overflow_add-count : goal.overflow_add-count
overflow_add-count c = let n = length_next c.args.intervals.now c.loop-interval.interval-index c.loop-interval-test.true in let m = length-expand 0 c.args.intervals.now (omega arith) c.requires in omega arith

pub loop-interval-preserved : goal.loop-interval-preserved
loop-interval-preserved c = record {
  ascends = (step_at c.args.intervals.now c.loop-interval.interval-index 0 c.loop-interval-test.true c.loop-interval.invariant.ascends).rest;
  counted = let n = length_next c.args.intervals.now c.loop-interval.interval-index c.loop-interval-test.true in omega arith;
}

pub returns-clause-few : goal.returns-clause-few
returns-clause-few c = let m = length-expand 0 c.args.intervals.now (omega arith) c.requires in omega arith

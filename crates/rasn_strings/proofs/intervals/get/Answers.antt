use Rattle.std.proofs.Common.{◌∙◌, sym, ap, ◌+◌, ◌-◌, drop, arith, slice_get}
use Rattle.rasn_strings.specs.Intervals.{expand}
use Rattle.rasn_strings.proofs.IntervalsOf.{step_at, get_here, get_further}
use Rattle.rasn_strings.proofs.intervals.get.Goals as goal

pub returns-then-left-count : goal.returns-then-left-count
returns-then-left-count c = sym (get_here c.args.intervals.now c.loop-interval.interval-index c.loop-interval.left c.loop-interval-test.true (omega arith)) ∙ c.loop-interval.invariant.passed

pub loop-interval-preserved : goal.loop-interval-preserved
loop-interval-preserved c = record {
  ascends = (step_at c.args.intervals.now c.loop-interval.interval-index 0 c.loop-interval-test.true c.loop-interval.invariant.ascends).rest;
  passed = ap (λ n. slice_get (expand (drop (c.loop-interval.interval-index + 1) c.args.intervals.now)) (c.loop-interval.left - n)) c.count-count.ensures
      ∙ sym (get_further c.args.intervals.now c.loop-interval.interval-index c.loop-interval.left c.loop-interval-test.true (omega arith))
      ∙ c.loop-interval.invariant.passed;
}

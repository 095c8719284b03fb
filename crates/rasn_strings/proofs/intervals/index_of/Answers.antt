use Rattle.std.proofs.Common.{◌∙◌, sym, ap, ◌+◌, get_or, drop, arith}
use Rattle.rasn_types.specs.Alphabets.{index_of}
use Rattle.rasn_strings.specs.Intervals.{expand}
use Rattle.rasn_strings.proofs.IntervalsOf.{step_at, length_next, length-expand, none, within_interval, index_here, index_further, later, later-later}
use Rattle.rasn_strings.proofs.intervals.index_of.Goals as goal

pub overflow_add-result : goal.overflow_add-result
overflow_add-result c = let n = length_next c.args.intervals.now c.loop-interval.interval-index c.loop-interval-test.true in let m = length-expand 0 c.args.intervals.now (omega arith) c.requires in let e = within_interval (get_or c.args.intervals.now c.loop-interval.interval-index none) c.args.character c.if-contains.ensures in let e0 = e.0 in let e1 = e.1 in omega arith

pub returns-then-contains : goal.returns-then-contains
returns-then-contains c = sym (ap (later c.loop-interval.before) (index_here c.args.intervals.now c.loop-interval.interval-index c.args.character c.loop-interval-test.true c.if-contains.ensures)) ∙ c.loop-interval.invariant.passed

pub overflow_add-before : goal.overflow_add-before
overflow_add-before c = let n = length_next c.args.intervals.now c.loop-interval.interval-index c.loop-interval-test.true in let m = length-expand 0 c.args.intervals.now (omega arith) c.requires in omega arith

pub loop-interval-preserved : goal.loop-interval-preserved
loop-interval-preserved c = record {
  ascends = (step_at c.args.intervals.now c.loop-interval.interval-index 0 c.loop-interval-test.true c.loop-interval.invariant.ascends).rest;
  counted = let n = length_next c.args.intervals.now c.loop-interval.interval-index c.loop-interval-test.true in omega arith;
  passed = ap (λ n. later (c.loop-interval.before + n) (index_of c.args.character (expand (drop (c.loop-interval.interval-index + 1) c.args.intervals.now)))) c.count-before.ensures
      ∙ sym (later-later c.loop-interval.before _ _)
      ∙ sym (ap (later c.loop-interval.before) (index_further c.args.intervals.now c.loop-interval.interval-index c.args.character c.loop-interval-test.true c.if-contains.ensures))
      ∙ c.loop-interval.invariant.passed;
}

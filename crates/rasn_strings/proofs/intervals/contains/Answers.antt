use Rattle.std.proofs.Common.{sym, ◌∙◌}
use Rattle.rasn_strings.proofs.IntervalsOf.{has_here, has_further}
use Rattle.rasn_strings.proofs.intervals.contains.Goals as goal

pub returns-then-contains : goal.returns-then-contains
returns-then-contains c = sym (has_here c.args.intervals.now c.loop-interval.interval-index c.args.character c.loop-interval-test.true c.if-contains.ensures) ∙ c.loop-interval.invariant

pub loop-interval-preserved : goal.loop-interval-preserved
loop-interval-preserved c = sym (has_further c.args.intervals.now c.loop-interval.interval-index c.args.character c.loop-interval-test.true c.if-contains.ensures) ∙ c.loop-interval.invariant

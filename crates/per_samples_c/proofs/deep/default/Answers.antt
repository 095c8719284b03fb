use Rattle.std.proofs.Common.{ap, arith, ◌+◌, ◌∙◌}
use Rattle.per_samples_c.specs.Deeps.{nest_with}
use Rattle.per_samples_c.proofs.Defaults.{first_made, next_made}
use Rattle.per_samples_c.proofs.deep.default.Goals as goal

pub loop-init : goal.loop-init
loop-init c = first_made

pub loop-preserved : goal.loop-preserved
loop-preserved c = next_made c.in_ok-new.field-0 c.loop.nest c.loop.counter (c.loop.counter + 1) c.in_ok-new.ensures.ok c.loop.invariant (omega arith)

pub returns : goal.returns
returns c = c.loop.invariant ∙ ap nest_with (omega (arith, c.loop-test.false, c.loop.auto.counter-end))

use Rattle.std.proofs.Common.{◌-◌, arith}
use Rattle.per_samples_c.proofs.Defaults.{nothing_inside, more_inside, too_many_inside}
use Rattle.per_samples_c.proofs.deep.+has_inside.Goals as goal

pub returns-in-None : goal.returns-in-None
returns-in-None t c = nothing_inside c.args.nest.now c.args.further c.in-None.is

pub returns-then-further-gt0 : goal.returns-then-further-gt0
returns-then-further-gt0 t c = more_inside c.args.nest.now c.deref.result.now (c.args.further - 1) c.args.further c.in-Some.is c.deref.ensures (omega (arith, c.if-further-gt0.true)) c.has_inside.ensures

pub returns-else-further-gt0 : goal.returns-else-further-gt0
returns-else-further-gt0 t c = too_many_inside c.args.nest.now c.args.further c.in-Some.is c.if-further-gt0.false

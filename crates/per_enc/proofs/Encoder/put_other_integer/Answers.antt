use Rattle.std.proofs.Common.{refl, sym, ◌∙◌}
use Rattle.per_enc.proofs.Noting.{unfailed_noted, writes_noted}
use Rattle.per_enc.proofs.Presenting.{unbounded_law}
use Rattle.per_enc.proofs.Encoder.put_other_integer.Goals as goal

pub returns-in-None-clause-writes : goal.returns-in-None-clause-writes
returns-in-None-clause-writes g c h =
    let n = c.self-2.view_is ∙ c.in_ok-begin_value.ensures.noted in
    let f = unfailed_noted c.args.self.now _ n c.in_ok-begin_value.ensures.ok in
    writes_noted c.args.self.now _ _ _ _ c.put_unconstrained_whole.result n c.in_ok-begin_value.ensures.ok
    (unbounded_law c.self-2.inside.writer _ c.args.constraints.now.value g.I.IntegerType.range (g.I.IntegerType.number c.args.value.now) c.put_unconstrained_whole.result (sym c.value.ensures ∙ c.in-None.is)
    f c.put_unconstrained_whole.ensures) refl

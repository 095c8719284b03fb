use Rattle.std.proofs.Common.{◌∙◌}
use Rattle.rasn_dynamic.proofs.NamedBits.{filled_bit, next_bit, other_bit}
use Rattle.rasn_dynamic.proofs.defaults.are_filled_up.Goals as goal

pub returns-then-is_set : goal.returns-then-is_set
returns-then-is_set c =
    let h = c.loop-index.invariant in
    other_bit c.loop-index.index _ c.args.told.now _ _ _ h.1 (rw h.2 at c.loop-index-test.true) (c.is_set.ensures ∙ filled_bit c.args.least c.loop-index.index c.args.own.now) c.is_set-in-loop-index.ensures h.0 c.if-is_set.true

pub loop-index-preserved : goal.loop-index-preserved
loop-index-preserved c =
    let h = c.loop-index.invariant in
    (next_bit c.loop-index.index _ c.args.told.now _ _ _ h.1 (rw h.2 at c.loop-index-test.true) (c.is_set.ensures ∙ filled_bit c.args.least c.loop-index.index c.args.own.now) c.is_set-in-loop-index.ensures h.0 c.if-is_set.false, h.1, h.2)

use Rattle.rasn_dynamic.specs.Values.{slot_of}
use Rattle.rasn_dynamic.proofs.Slots.{no_more, one_more}
use Rattle.rasn_dynamic.proofs.copying.+copying.Goals as goal

pub copies_of-loop-value-preserved : goal.copies_of-loop-value-preserved
copies_of-loop-value-preserved t c = rw c.in_ok-push.ensures.items (one_more slot_of _ c.args.values.now _ c.in_ok-copy.copy _ c.loop-value-test.true c.value-item.is c.in_ok-copy.ensures c.loop-value.invariant)

pub copies_of-returns : goal.copies_of-returns
copies_of-returns t c = no_more slot_of _ c.args.values.now _ c.loop-value-test.false c.loop-value.invariant

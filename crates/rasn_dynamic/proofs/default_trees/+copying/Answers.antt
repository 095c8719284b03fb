use Rattle.std.proofs.Common.{Some}
use Rattle.rasn_dynamic.specs.Types.{tree_slot, tree_value}
use Rattle.rasn_dynamic.proofs.DefaultTrees.{elements_made}
use Rattle.rasn_dynamic.proofs.Slots.{no_more, one_more}
use Rattle.rasn_dynamic.proofs.default_trees.+copying.Goals as goal

pub copies_of-loop-told-preserved : goal.copies_of-loop-told-preserved
copies_of-loop-told-preserved t c = rw c.in_ok-push.ensures.items (one_more tree_slot _ c.args.tolds.now _ c.in_ok-value.value _ c.loop-told-test.true c.told-item.is c.in_ok-value.ensures c.loop-told.invariant)

pub copies_of-returns : goal.copies_of-returns
copies_of-returns t c = no_more tree_slot _ c.args.tolds.now _ c.loop-told-test.false c.loop-told.invariant

pub values_of-loop-told-preserved : goal.values_of-loop-told-preserved
values_of-loop-told-preserved t c = rw c.in_ok-push.ensures.items (one_more (λ d. Some (tree_value d)) _ c.args.tolds.now _ c.in_ok-value.value _ c.loop-told-test.true c.told-item.is c.in_ok-value.ensures c.loop-told.invariant)

pub values_of-returns : goal.values_of-returns
values_of-returns t c = no_more (λ d. Some (tree_value d)) _ c.args.tolds.now _ c.loop-told-test.false c.loop-told.invariant

pub copy_of-returns-in_ok-values_of-in-Elements : goal.copy_of-returns-in_ok-values_of-in-Elements
copy_of-returns-in_ok-values_of-in-Elements t c = elements_made c.in_ok-values_of-in-Elements.field-0 c.in-Elements.tolds c.deref.result.now c.args.told.now c.in_ok-values_of-in-Elements.ensures c.deref.ensures.value c.in-Elements.is

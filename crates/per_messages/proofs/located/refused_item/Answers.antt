use Rattle.std.proofs.Common.{refl}
use Rattle.json.specs.Value.{items_view}
use Rattle.per_messages.proofs.Paths.{item_there, items_all, items_more, items_none}
use Rattle.per_messages.proofs.located.refused_item.Goals as goal

pub loop-index-init : goal.loop-index-init
loop-index-init c = λ r. items_none c.args.kinds.now c.args.levels c.args.of (items_view c.args.items.now)

pub loop-index-preserved : goal.loop-index-preserved
loop-index-preserved c = λ r.
    items_more c.args.kinds.now c.args.levels c.args.of c.args.items.now c.loop-index.index c.index-items-index.result c.loop-index-test.true c.index-items-index.is
    (c.in_ok-is_refused.ensures.no r c.if-branch.false) (c.loop-index.invariant r)

pub returns-clause-none : goal.returns-clause-none
returns-clause-none c = λ r n. items_all c.args.kinds.now c.args.levels c.args.of c.args.items.now c.loop-index.index c.loop-index-test.false (c.loop-index.invariant r)

pub returns-then-branch-clause-found : goal.returns-then-branch-clause-found
returns-then-branch-clause-found c =
    record { index = c.loop-index.index; numbered = refl; there = item_there c.args.items.now c.loop-index.index c.index-items-index.result c.loop-index-test.true c.index-items-index.is; untold = c.in_ok-is_refused.ensures.yes c.if-branch.true }

use Rattle.per_messages.specs.Remarks.{of_row}
use Rattle.per_messages.proofs.Walked.{adds_all, adds_each, adds_none}
use Rattle.per_messages.proofs.departures.push_on_rows.Goals as goal

pub loop-row-init : goal.loop-row-init
loop-row-init c = adds_none _

pub loop-row-preserved : goal.loop-row-preserved
loop-row-preserved c =
    adds_each (λ k r. of_row c.args.kinds.now c.args.path.now c.args.root.now c.args.values.now c.args.chooser r) c.loop-row.row-index
    c.args.rows.now c.row-item.result c.args.remarks.now.items c.loop-row.remarks.items c.push_on_row.new.remarks.items
    c.loop-row-test.true c.row-item.is c.loop-row.invariant c.in_ok-push_on_row.ensures

pub returns : goal.returns
returns c =
    adds_all (λ k r. of_row c.args.kinds.now c.args.path.now c.args.root.now c.args.values.now c.args.chooser r) c.loop-row.row-index
    c.args.rows.now c.args.remarks.now.items c.loop-row.remarks.items c.loop-row-test.false c.loop-row.invariant

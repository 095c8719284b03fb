use Rattle.std.specs.Prelude.{slice_get}
use Rattle.per_dynamic.specs.OpenTypes.{set_of}
use Rattle.per_messages.specs.Remarks.{of_set}
use Rattle.per_messages.proofs.Walked.{adds_all, adds_each, adds_none}
use Rattle.per_messages.proofs.departures.push_on_records.Goals as goal

pub loop-component-init : goal.loop-component-init
loop-component-init c = adds_none _

pub loop-component-preserved : goal.loop-component-preserved
loop-component-preserved c =
    adds_each (λ k p. of_set c.args.kinds.now c.args.path.now c.args.root.now c.args.values.now (set_of (slice_get c.args.kinds.now p.of))) c.loop-component.component-index
    c.args.root.now c.component-item.result c.args.remarks.now.items c.loop-component.remarks.items c.push_on_component.new.remarks.items
    c.loop-component-test.true c.component-item.is c.loop-component.invariant c.in_ok-push_on_component.ensures

pub returns : goal.returns
returns c =
    adds_all (λ k p. of_set c.args.kinds.now c.args.path.now c.args.root.now c.args.values.now (set_of (slice_get c.args.kinds.now p.of))) c.loop-component.component-index
    c.args.root.now c.args.remarks.now.items c.loop-component.remarks.items c.loop-component-test.false c.loop-component.invariant

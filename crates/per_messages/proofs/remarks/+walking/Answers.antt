use Rattle.std.proofs.Common.{◌≡◌, suc, arith}
use Rattle.std.specs.Prelude.{slice_get}
use Rattle.per_messages.specs.Remarks.{of_field, element_path, remarks_at}
use Rattle.per_messages.proofs.Walked.{adds_all, adds_each, adds_none, no_level, remarks_below, remarks_last}
use Rattle.per_messages.proofs.remarks.+walking.Goals as goal

pub push_remarks-returns-in-Some : goal.push_remarks-returns-in-Some
push_remarks-returns-in-Some t c =
    let n : c.args.levels ≡ suc c.in-Some.below = omega (arith, c.in-Some.ensures.0, c.in-Some.ensures.1) in
    rw (remarks_below c.args.kinds.now c.args.levels c.in-Some.below c.args.path.now c.args.place c.args.value.now n) c.push_within.ensures

pub push_remarks-returns-in-None : goal.push_remarks-returns-in-None
push_remarks-returns-in-None t c =
    rw (remarks_last c.args.kinds.now c.args.levels c.args.path.now c.args.place c.args.value.now (no_level c.args.levels c.in-None.ensures)) (adds_none _)

pub push_elements-loop-index-init : goal.push_elements-loop-index-init
push_elements-loop-index-init t c = adds_none _

pub push_elements-loop-index-preserved : goal.push_elements-loop-index-preserved
push_elements-loop-index-preserved t c =
    adds_each (λ k x. remarks_at c.args.kinds.now c.args.levels (element_path c.args.path.now k) c.args.of x) c.loop-index.index
    c.args.values.now c.index-values-index.result c.args.remarks.now.items c.loop-index.remarks.items c.push_remarks.new.remarks.items
    c.loop-index-test.true c.index-values-index.is c.loop-index.invariant
    (rw (c.as_str.ensures.value, c.in_ok-own.ensures) at c.in_ok-push_remarks.ensures)

pub push_elements-returns : goal.push_elements-returns
push_elements-returns t c =
    adds_all (λ k x. remarks_at c.args.kinds.now c.args.levels (element_path c.args.path.now k) c.args.of x) c.loop-index.index
    c.args.values.now c.args.remarks.now.items c.loop-index.remarks.items c.loop-index-test.false c.loop-index.invariant

pub push_fields-loop-index-init : goal.push_fields-loop-index-init
push_fields-loop-index-init t c = adds_none _

pub push_fields-loop-index-preserved : goal.push_fields-loop-index-preserved
push_fields-loop-index-preserved t c =
    adds_each (λ k y. of_field c.args.kinds.now (remarks_at c.args.kinds.now c.args.levels) c.args.path.now c.args.root.now c.args.root_values.now (slice_get c.args.components.now k) y)
    c.loop-index.index c.args.values.now c.index-values-index.result c.args.remarks.now.items c.loop-index.remarks.items c.push_field.new.remarks.items
    c.loop-index-test.true c.index-values-index.is c.loop-index.invariant
    (rw c.component_at-component.ensures at c.in_ok-push_field.ensures)

pub push_fields-returns : goal.push_fields-returns
push_fields-returns t c =
    adds_all (λ k y. of_field c.args.kinds.now (remarks_at c.args.kinds.now c.args.levels) c.args.path.now c.args.root.now c.args.root_values.now (slice_get c.args.components.now k) y)
    c.loop-index.index c.args.values.now c.args.remarks.now.items c.loop-index.remarks.items c.loop-index-test.false c.loop-index.invariant

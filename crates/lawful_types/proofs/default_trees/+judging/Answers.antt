use Rattle.std.proofs.Common.{◌∙◌, sym, ap, refl, ◌+◌, ◌<◌, length, arith, le_trans}
use Rattle.rasn_schema.specs.Lists.{deepest}
use Rattle.std.specs.Prelude.{option_map}
use Rattle.rasn_dynamic.specs.declared.types.DefaultValue.TheVariants.{Null}
use Rattle.rasn_dynamic.specs.Types.{schema_at, tree_slot, tree_value}
use Rattle.rasn_dynamic.proofs.DefaultTrees.{elements_stated}
use Rattle.lawful_types.specs.TypeRules.{is_right, is_right_slot, tree_levels}
use Rattle.lawful_types.proofs.Pairwise.{paired_begun, paired_ended, paired_failed, paired_passed, paired_uneven}
use Rattle.lawful_types.proofs.Passing.{fails_at, passes_more}
use Rattle.lawful_types.proofs.RightTrees
use Rattle.lawful_types.proofs.SameTrees.{absent_stated, chosen_stated, fields_stated, plain_stated}
use Rattle.lawful_types.proofs.default_trees.+judging.Goals as goal

pub are_elements-loop-told-preserved : goal.are_elements-loop-told-preserved
are_elements-loop-told-preserved t c = λ n le.
    let ts = c.args.kinds.now in let ds = c.args.tolds.now in
    passes_more (λ d. is_right (schema_at ts c.args.place n) (tree_value d)) ds c.loop-told.told-index _ c.loop-told-test.true c.told-item.is
    (sym (c.is_right_at.ensures.at n (le_trans (RightTrees.tree_below ds c.loop-told.told-index _ c.loop-told-test.true c.told-item.is) le)) ∙ c.if-not-is_right_at.false) (c.loop-told.invariant n le)

pub are_elements-returns-then-not-is_right_at : goal.are_elements-returns-then-not-is_right_at
are_elements-returns-then-not-is_right_at t c = record {
  at = λ n le.
      let ts = c.args.kinds.now in let ds = c.args.tolds.now in
      sym (fails_at (λ d. is_right (schema_at ts c.args.place n) (tree_value d)) ds c.loop-told.told-index _ c.loop-told-test.true c.told-item.is
      (sym (c.is_right_at.ensures.at n (le_trans (RightTrees.tree_below ds c.loop-told.told-index _ c.loop-told-test.true c.told-item.is) le)) ∙ c.if-not-is_right_at.true));
}

pub are_elements-returns : goal.are_elements-returns
are_elements-returns t c = record {
  at = λ n le. RightTrees.all_passed (λ d. is_right (schema_at c.args.kinds.now c.args.place n) (tree_value d)) c.args.tolds.now c.loop-told.told-index c.loop-told-test.false (c.loop-told.invariant n le);
}

pub are_parts-returns-then-components-tolds : goal.are_parts-returns-then-components-tolds
are_parts-returns-then-components-tolds t c = paired_uneven (deepest tree_levels c.args.tolds.now + 2) (λ n k d. is_right_slot c.args.are_added c.args.kinds.now n k (tree_slot d)) c.args.components.now c.args.tolds.now (λ e. omega (arith, e))

pub are_parts-loop-index-init : goal.are_parts-loop-index-init
are_parts-loop-index-init t c = paired_begun (deepest tree_levels c.args.tolds.now + 2) (λ n k d. is_right_slot c.args.are_added c.args.kinds.now n k (tree_slot d)) c.args.components.now c.args.tolds.now

pub are_parts-returns-then-not-is_part : goal.are_parts-returns-then-not-is_part
are_parts-returns-then-not-is_part t c =
    let l : c.loop-index.index < length c.args.components.now = omega arith in
    paired_failed (deepest tree_levels c.args.tolds.now + 2) (λ n k d. is_right_slot c.args.are_added c.args.kinds.now n k (tree_slot d)) c.args.components.now c.args.tolds.now c.loop-index.index c.loop-index.invariant _ _ c.is_part.result l c.index-components-index.is c.loop-index-test.true c.index-tolds-index.is
    (λ n le. c.is_part.ensures n (le_trans (RightTrees.tree_below c.args.tolds.now c.loop-index.index _ c.loop-index-test.true c.index-tolds-index.is) le)) c.if-not-is_part.true

pub are_parts-loop-index-preserved : goal.are_parts-loop-index-preserved
are_parts-loop-index-preserved t c =
    let l : c.loop-index.index < length c.args.components.now = omega arith in
    paired_passed (deepest tree_levels c.args.tolds.now + 2) (λ n k d. is_right_slot c.args.are_added c.args.kinds.now n k (tree_slot d)) c.args.components.now c.args.tolds.now c.loop-index.index c.loop-index.invariant _ _ c.is_part.result l c.index-components-index.is c.loop-index-test.true c.index-tolds-index.is
    (λ n le. c.is_part.ensures n (le_trans (RightTrees.tree_below c.args.tolds.now c.loop-index.index _ c.loop-index-test.true c.index-tolds-index.is) le)) c.if-not-is_part.false

pub are_parts-returns : goal.are_parts-returns
are_parts-returns t c = paired_ended (deepest tree_levels c.args.tolds.now + 2) (λ n k d. is_right_slot c.args.are_added c.args.kinds.now n k (tree_slot d)) c.args.components.now c.args.tolds.now c.loop-index.index c.loop-index.invariant (omega arith) c.loop-index-test.false

pub is_part-returns-then-not-there : goal.is_part-returns-then-not-there
is_part-returns-then-not-there t c = λ n le. RightTrees.absent_right c.args.is_added c.args.kinds.now n c.args.component.now (tree_slot c.args.told.now) c.is_there-there.result c.may_be_absent.result c.is_there-there.ensures c.if-not-there.true c.may_be_absent.ensures

pub is_part-returns-then-not-is_right_at : goal.is_part-returns-then-not-is_right_at
is_part-returns-then-not-is_right_at t c = λ n le. RightTrees.part_wrong c.args.is_added c.args.kinds.now n c.args.component.now (tree_slot c.args.told.now) c.is_there-there.result c.is_right_at.result c.is_there-there.ensures c.if-not-there.false (c.is_right_at.ensures.at n le) c.if-not-is_right_at.true

pub is_part-returns : goal.is_part-returns
is_part-returns t c = λ n le.
    RightTrees.fits c.args.is_added c.args.kinds.now n (tree_levels c.args.told.now) c.args.component.now (tree_slot c.args.told.now) c.is_there-there.result c.is_right_at.result c.is_vacant_group.result le c.is_there-there.ensures c.if-not-there.false (c.is_right_at.ensures.at n le) c.if-not-is_right_at.false c.is_vacant_group.ensures

pub is_right_at-returns-in-Absent : goal.is_right_at-returns-in-Absent
is_right_at-returns-in-Absent t c = RightTrees.plain_told c.args.kinds.now c.args.place c.args.told.now Null c.is_default_at.result c.is_default_at.ensures (absent_stated c.args.told.now c.in-Absent.is)

pub is_right_at-returns-in-Plain : goal.is_right_at-returns-in-Plain
is_right_at-returns-in-Plain t c = RightTrees.plain_told c.args.kinds.now c.args.place c.args.told.now c.in-Plain.told c.is_default_at-in-Plain.result c.is_default_at-in-Plain.ensures (plain_stated c.in-Plain.told c.args.told.now c.in-Plain.is)

pub is_right_at-returns-in-Elements : goal.is_right_at-returns-in-Elements
is_right_at-returns-in-Elements t c =
    RightTrees.elements_told c.args.kinds.now c.args.place c.deref-elements.result.now c.args.told.now c.is_list.result (elements_stated c.in-Elements.tolds c.deref-elements.result.now c.args.told.now c.deref-elements.ensures.value c.in-Elements.is) c.is_list.ensures

pub is_right_at-returns-then-not-root_fits : goal.is_right_at-returns-then-not-root_fits
is_right_at-returns-then-not-root_fits t c =
    RightTrees.in_record_wrong c.args.kinds.now c.args.place c.deref-root_tolds.result.now c.deref-added_tolds.result.now c.args.told.now
    (fields_stated c.in-Fields.root c.in-Fields.additions c.deref-root_tolds.result.now c.deref-added_tolds.result.now c.args.told.now c.deref-root_tolds.ensures.value c.deref-added_tolds.ensures.value c.in-Fields.is)
    c.in-Some.record.now (sym c.record_within.ensures ∙ ap (option_map (λ r. r.now)) c.in-Some.is) c.are_parts-root_fits.result c.if-not-root_fits.true (rw c.root-components.ensures at c.are_parts-root_fits.ensures)

pub is_right_at-returns-else-not-root_fits : goal.is_right_at-returns-else-not-root_fits
is_right_at-returns-else-not-root_fits t c =
    RightTrees.in_record c.args.kinds.now c.args.place c.deref-root_tolds.result.now c.deref-added_tolds.result.now c.args.told.now
    (fields_stated c.in-Fields.root c.in-Fields.additions c.deref-root_tolds.result.now c.deref-added_tolds.result.now c.args.told.now c.deref-root_tolds.ensures.value c.deref-added_tolds.ensures.value c.in-Fields.is)
    c.in-Some.record.now (sym c.record_within.ensures ∙ ap (option_map (λ r. r.now)) c.in-Some.is) c.are_parts-root_fits.result c.are_parts.result c.if-not-root_fits.false (rw c.root-components.ensures at c.are_parts-root_fits.ensures) (rw c.behind-behind.ensures at c.are_parts.ensures)

pub is_right_at-returns-in-None : goal.is_right_at-returns-in-None
is_right_at-returns-in-None t c =
    RightTrees.in_no_record c.args.kinds.now c.args.place c.in-Fields.root.items c.in-Fields.additions.items c.args.told.now
    (fields_stated c.in-Fields.root c.in-Fields.additions c.in-Fields.root.items c.in-Fields.additions.items c.args.told.now refl refl c.in-Fields.is)
    (sym c.record_within.ensures ∙ ap (option_map (λ r. r.now)) c.in-None.is)

pub is_right_at-returns-in-Alternative : goal.is_right_at-returns-in-Alternative
is_right_at-returns-in-Alternative t c =
    RightTrees.alternative_told c.args.kinds.now c.args.place c.in-Alternative.at c.deref-value.result.now c.args.told.now c.is_right_at.result
    (chosen_stated c.in-Alternative.at c.in-Alternative.chosen c.deref-value.result.now c.args.told.now c.in-Alternative.is c.deref-value.ensures) (rw c.chosen_place-of.ensures at c.is_right_at.ensures)

pub is_list-returns-in-Some : goal.is_list-returns-in-Some
is_list-returns-in-Some t c = RightTrees.in_list c.args.kinds.now c.args.place c.args.tolds.now c.are_elements.result c.in-Some.of (sym c.list_within.ensures ∙ c.in-Some.is) (omega arith) c.are_elements.ensures

pub is_list-returns-in-None : goal.is_list-returns-in-None
is_list-returns-in-None t c = RightTrees.in_no_list c.args.kinds.now c.args.place c.args.tolds.now (sym c.list_within.ensures ∙ c.in-None.is)

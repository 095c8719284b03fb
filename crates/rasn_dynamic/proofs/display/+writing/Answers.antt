use Rattle.std.proofs.Common.{◌∙◌, ap, sym, suc, max, arith}
use Rattle.std.proofs.lemmas.Grind.{common_steps}
use Rattle.rasn_schema.specs.Lists.{deepest}
use Rattle.rasn_dynamic.specs.Values.{levels_of}
use Rattle.rasn_dynamic.specs.declared.values.Value.TheVariants.{rolls-Alternative, rolls-Bag, rolls-Elements, rolls-Fields}
use Rattle.rasn_dynamic.proofs.Trees.{alternative_levels, bag_levels, deepest_at, elements_levels, fields_levels}
use Rattle.rasn_dynamic.proofs.display.+writing.Goals as goal

pub write_value-write_values-requires : goal.write_value-write_values-requires
write_value-write_values-requires g t c =
    let e = elements_levels c.args.value.now _ (c.in-Elements.is ∙ sym (rolls-Elements c.in-Elements.values)) ∙ ap (λ vs. suc (deepest levels_of vs)) (sym c.deref.ensures.value) in
    grind (arith, common_steps, e)

pub write_value-write_values-requires-in-Bag : goal.write_value-write_values-requires-in-Bag
write_value-write_values-requires-in-Bag g t c =
    let e = bag_levels c.args.value.now _ (c.in-Bag.is ∙ sym (rolls-Bag c.in-Bag.values)) ∙ ap (λ vs. suc (deepest levels_of vs)) (sym c.deref-in-Bag.ensures.value) in
    grind (arith, common_steps, e)

pub write_value-write_values-requires-in-Fields : goal.write_value-write_values-requires-in-Fields
write_value-write_values-requires-in-Fields g t c =
    let e = fields_levels c.args.value.now _ _ (c.in-Fields.is ∙ sym (rolls-Fields c.in-Fields.root c.in-Fields.additions)) ∙ ap (λ vs. suc (max (deepest levels_of vs) (deepest levels_of c.in-Fields.additions.items))) (sym c.deref-in-Fields.ensures.value) in
    grind (arith, common_steps, e)

pub write_value-write_values-requires-in-Fields-2 : goal.write_value-write_values-requires-in-Fields-2
write_value-write_values-requires-in-Fields-2 g t c =
    let e = fields_levels c.args.value.now _ _ (c.in-Fields.is ∙ sym (rolls-Fields c.in-Fields.root c.in-Fields.additions)) ∙ ap (λ vs. suc (max (deepest levels_of c.in-Fields.root.items) (deepest levels_of vs))) (sym c.deref-in-Fields-2.ensures.value) in
    grind (arith, common_steps, e)

pub write_value-write_value-requires : goal.write_value-write_value-requires
write_value-write_value-requires g t c =
    let e = alternative_levels c.args.value.now _ _ (c.in-Alternative.is ∙ sym (rolls-Alternative c.in-Alternative.place c.in-Alternative.chosen)) ∙ ap (λ u. suc (levels_of u)) (sym c.deref-in-Alternative.ensures) in
    grind (arith, common_steps, e)

pub write_values-write_value-requires : goal.write_values-write_value-requires
write_values-write_value-requires g t c = grind (arith, common_steps, deepest_at c.args.values.now _ _ c.loop-value-test.true c.value-item.is)

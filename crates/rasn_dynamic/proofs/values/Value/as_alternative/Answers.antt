use Rattle.std.proofs.Common.{◌≡◌, ◌∙◌, ap, sym}
use Rattle.rasn_types.specs.Values.{alternative}
use Rattle.rasn_traits.specs.Counted.{index_in, side_of}
use Rattle.rasn_dynamic.specs.declared.values.Value.TheVariants.{rolls-Alternative}
use Rattle.rasn_dynamic.specs.Values.{value_of}
use Rattle.rasn_dynamic.proofs.Trees.{alternative_value, not_alternative}
use Rattle.rasn_dynamic.proofs.values.Value.as_alternative.Goals as goal

pub returns-in-Alternative : goal.returns-in-Alternative
returns-in-Alternative c =
    alternative_value c.args.self.now _ _ (c.in-Alternative.is ∙ sym (rolls-Alternative c.in-Alternative.place c.in-Alternative.chosen))
    ∙ ap (λ v. alternative (side_of c.in-Alternative.place) (index_in c.in-Alternative.place) (value_of v)) (sym c.deref-value.ensures)

pub returns-in_default : goal.returns-in_default
returns-in_default c = not_alternative c.args.self.now c.in_default.not-Alternative

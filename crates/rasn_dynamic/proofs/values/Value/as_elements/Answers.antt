use Rattle.std.proofs.Common.{◌≡◌, ◌∙◌, ap, map, sym}
use Rattle.rasn_schema.specs.Structures.{list_value}
use Rattle.rasn_dynamic.specs.declared.values.Value.TheVariants.{rolls-Elements}
use Rattle.rasn_dynamic.specs.Values.{value_of}
use Rattle.rasn_dynamic.proofs.Trees.{elements_value, not_elements}
use Rattle.rasn_dynamic.proofs.values.Value.as_elements.Goals as goal

pub returns-in-Elements : goal.returns-in-Elements
returns-in-Elements c = elements_value c.args.self.now _ (c.in-Elements.is ∙ sym (rolls-Elements c.in-Elements.values)) ∙ ap (λ vs. list_value (map value_of vs)) (sym c.deref-elements.ensures.value)

pub returns-in_default : goal.returns-in_default
returns-in_default c = not_elements c.args.self.now c.in_default.not-Elements

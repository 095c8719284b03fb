use Rattle.std.proofs.Common.{sym, ◌∙◌, inl, inr}
use Rattle.rasn_dynamic_jer.proofs.Differing.{name_again, name_once}
use Rattle.per_messages.proofs.apart.+are_components_apart.Goals.{then-is_component-via-then-is_component, then-is_component-via-else-is_component+then-is_added}
use Rattle.per_messages.proofs.apart.+are_components_apart.Goals as goal

pub returns-then-is_component : goal.returns-then-is_component
returns-then-is_component t c = elim c.then-is_component.branch [
  | then-is_component-via-then-is_component w ↦ name_again c.args.kinds.now c.args.components.now c.args.additions.now _ _ c.in-len1-up.len_at_least c.component-item.is c.as_str-name.ensures.value (inl (sym c.is_component.ensures ∙ w.if-is_component.true))
  | then-is_component-via-else-is_component+then-is_added w ↦ name_again c.args.kinds.now c.args.components.now c.args.additions.now _ _ c.in-len1-up.len_at_least c.component-item.is c.as_str-name.ensures.value (inr (sym w.is_added.ensures ∙ w.if-is_added.true))
]

pub returns-else-is_added : goal.returns-else-is_added
returns-else-is_added t c =
    name_once c.args.kinds.now c.args.components.now c.args.additions.now _ _ _ c.in-len1-up.len_at_least c.component-item.is c.as_str-name.ensures.value
    (sym c.is_component.ensures ∙ c.if-is_component.false) (sym c.is_added.ensures ∙ c.if-is_added.false) c.are_components_apart.ensures

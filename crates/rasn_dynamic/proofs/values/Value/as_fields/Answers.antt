use Rattle.std.proofs.Common.{◌≡◌, ◌∙◌, ap₂, map, sym}
use Rattle.rasn_schema.specs.Structures.{record_value}
use Rattle.rasn_dynamic.specs.declared.values.Value.TheVariants.{rolls-Fields}
use Rattle.rasn_dynamic.specs.Values.{slot_of}
use Rattle.rasn_dynamic.proofs.Trees.{fields_value, not_fields}
use Rattle.rasn_dynamic.proofs.values.Value.as_fields.Goals as goal

pub returns-in-Fields : goal.returns-in-Fields
returns-in-Fields c = fields_value c.args.self.now _ _ (c.in-Fields.is ∙ sym (rolls-Fields c.in-Fields.root c.in-Fields.additions)) ∙ ap₂ (λ vs ws. record_value (map slot_of vs) (map slot_of ws)) (sym c.deref-fields.ensures.value) (sym c.deref-added.ensures.value)

pub returns-in_default : goal.returns-in_default
returns-in_default c = not_fields c.args.self.now c.in_default.not-Fields

use Rattle.std.proofs.Common.{◌∙◌, ap}
use Rattle.rasn_types.specs.Values.{same}
use Rattle.rasn_dynamic.specs.Types.{default_value}
use Rattle.rasn_dynamic.proofs.DefaultTrees.{elements_stated}
use Rattle.lawful_types.proofs.SameTrees.{plain_no_choice, plain_no_record}
use Rattle.lawful_types.proofs.same_defaults.is_plain.Goals as goal

pub returns-in-Elements : goal.returns-in-Elements
returns-in-Elements c = c.are_empty.ensures.told ∙ ap (same (default_value c.args.own.now)) (elements_stated c.in-Elements.tolds c.deref-elements.result.now c.args.told.now c.deref-elements.ensures.value c.in-Elements.is)

pub returns-in-Fields : goal.returns-in-Fields
returns-in-Fields c = plain_no_record c.args.own.now c.in-Fields.field-0 c.in-Fields.field-1 c.args.told.now c.in-Fields.is

pub returns-in-Alternative : goal.returns-in-Alternative
returns-in-Alternative c = plain_no_choice c.args.own.now c.in-Alternative.field-0 c.in-Alternative.field-1 c.args.told.now c.in-Alternative.is

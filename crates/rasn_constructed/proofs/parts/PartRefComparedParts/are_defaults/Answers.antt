use Rattle.rasn_constructed.proofs.RecordTests.{told_another, told_first}
use Rattle.rasn_constructed.proofs.parts.PartRefComparedParts.are_defaults.Goals as goal

pub returns-then-is_field : goal.returns-then-is_field
returns-then-is_field g c = told_first g.K.ComponentDefault.form g.N.ComparedParts.forms _ _ _ _ _ _ _ _ c.is_field.ensures c.if-is_field.true c.are_defaults.ensures

pub returns-else-is_field : goal.returns-else-is_field
returns-else-is_field g c = told_another g.K.ComponentDefault.form g.N.ComparedParts.forms _ _ _ _ _ _ _ c.is_field.ensures c.if-is_field.false

use Rattle.rasn_constructed.proofs.RecordTests.{told_absent_group}
use Rattle.rasn_constructed.proofs.components.AbsentGroupComponentDefaultOption.is_field.Goals as goal

pub returns : goal.returns
returns g c = told_absent_group g.G.Components.components.0 g.G.Components.depth _ c.args.field.now _ c.is_none.ensures

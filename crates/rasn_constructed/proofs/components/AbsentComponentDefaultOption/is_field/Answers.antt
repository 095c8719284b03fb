use Rattle.rasn_constructed.proofs.RecordTests.{told_absent}
use Rattle.rasn_constructed.proofs.components.AbsentComponentDefaultOption.is_field.Goals as goal

pub returns : goal.returns
returns g c = told_absent (g.H.AsnType.schema g.H.AsnType.CONSTRAINTS) g.H.AsnType.levels g.H.AsnType.value c.args.field.now _ c.is_none.ensures

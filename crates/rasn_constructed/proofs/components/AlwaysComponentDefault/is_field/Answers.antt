use Rattle.rasn_constructed.proofs.RecordTests.{told_there}
use Rattle.rasn_constructed.proofs.components.AlwaysComponentDefault.is_field.Goals as goal

pub returns : goal.returns
returns g c = (rw c.CONSTRAINTS.ensures at (told_there (g.H.AsnType.schema c.CONSTRAINTS.result) _ _ _ _ c.stands_for.ensures.at))

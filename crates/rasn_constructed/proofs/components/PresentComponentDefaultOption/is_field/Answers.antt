use Rattle.rasn_constructed.proofs.RecordTests.{told_there}
use Rattle.rasn_constructed.proofs.components.PresentComponentDefaultOption.is_field.Goals as goal

pub returns-in-Some : goal.returns-in-Some
returns-in-Some g c = rw c.in-Some.is (rw c.CONSTRAINTS.ensures at (told_there (g.H.AsnType.schema c.CONSTRAINTS.result) _ _ _ _ c.stands_for.ensures.at))

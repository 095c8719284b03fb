use Rattle.rasn_constructed.proofs.RecordTests.{told_group}
use Rattle.rasn_constructed.proofs.components.PresentGroupComponentDefaultOption.is_field.Goals as goal

pub returns-in-Some : goal.returns-in-Some
returns-in-Some g c = rw c.in-Some.is (told_group g.G.Components.components.0 _ _ _ _ c.stands_for.ensures.at)

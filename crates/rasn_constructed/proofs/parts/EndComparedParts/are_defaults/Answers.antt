use Rattle.rasn_constructed.proofs.RecordTests.{told_none}
use Rattle.rasn_constructed.proofs.parts.EndComparedParts.are_defaults.Goals as goal

pub returns : goal.returns
returns c = told_none

use Rattle.rasn_strings.proofs.Own.{expand-numeric}
use Rattle.rasn_strings.proofs.strings.NumericKindCharacterKind.intervals.Goals as goal

pub returns-clause-expands : goal.returns-clause-expands
returns-clause-expands c = expand-numeric

use Rattle.rasn_strings.proofs.Own.{expand-ia5}
use Rattle.rasn_strings.proofs.strings.Ia5KindCharacterKind.intervals.Goals as goal

pub returns-clause-expands : goal.returns-clause-expands
returns-clause-expands c = expand-ia5

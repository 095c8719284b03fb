use Rattle.rasn_strings.proofs.Own.{expand-visible}
use Rattle.rasn_strings.proofs.strings.VisibleKindCharacterKind.intervals.Goals as goal

pub returns-clause-expands : goal.returns-clause-expands
returns-clause-expands c = expand-visible

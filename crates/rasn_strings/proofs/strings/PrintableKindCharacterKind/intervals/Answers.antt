use Rattle.rasn_strings.proofs.Own.{expand-printable}
use Rattle.rasn_strings.proofs.strings.PrintableKindCharacterKind.intervals.Goals as goal

pub returns-clause-expands : goal.returns-clause-expands
returns-clause-expands c = expand-printable

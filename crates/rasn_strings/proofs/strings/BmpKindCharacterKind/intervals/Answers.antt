use Rattle.std.proofs.lemmas.List.{append-nil}
use Rattle.rasn_types.specs.Alphabets.{bmp}
use Rattle.rasn_strings.proofs.strings.BmpKindCharacterKind.intervals.Goals as goal

pub returns-clause-expands : goal.returns-clause-expands
returns-clause-expands c = append-nil bmp

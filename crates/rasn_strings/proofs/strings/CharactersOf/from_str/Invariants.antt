use Rattle.std.proofs.Common.{◌≡◌}
use Rattle.rasn_strings.proofs.strings.CharactersOf.from_str.Given as goal

abbrev pub invariant-loop-character : goal.invariant-loop-character
invariant-loop-character g l = l.string ≡ l.yielded

use Rattle.std.proofs.Common.{◌≡◌, drop}
use Rattle.rasn_types.specs.Contents.{are_digits}
use Rattle.rasn_strings.proofs.moment.are_digits.Given as goal

-- what is left decides
abbrev pub invariant-loop-character : goal.invariant-loop-character
invariant-loop-character l = are_digits (drop l.character-index l.text) ≡ are_digits l.text

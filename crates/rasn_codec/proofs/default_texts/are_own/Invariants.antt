use Rattle.std.proofs.Common.{◌≡◌, drop}
use Rattle.rasn_types.specs.Alphabets.{has}
use Rattle.rasn_codec.specs.AtDefault.{are_all}
use Rattle.rasn_codec.proofs.default_texts.are_own.Given as goal

-- whether the type has all characters that are left is whether it has all
abbrev pub invariant-loop-character : goal.invariant-loop-character
invariant-loop-character g l = are_all (has g.S.StaticPermittedAlphabet.alphabet) (drop l.character-index l.characters) ≡ are_all (has g.S.StaticPermittedAlphabet.alphabet) l.characters

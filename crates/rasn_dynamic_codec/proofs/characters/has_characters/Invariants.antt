use Rattle.std.proofs.Common.{◌≡◌, drop}
use Rattle.rasn_types.specs.Alphabets.{has_all}
use Rattle.rasn_dynamic_codec.proofs.characters.has_characters.Given as goal

-- whether the kind has all characters that are left is whether it has all
abbrev pub invariant-loop-unit : goal.invariant-loop-unit
invariant-loop-unit g l = has_all g.K.CharacterKind.alphabet (drop l.unit-index l.unit-items) ≡ has_all g.K.CharacterKind.alphabet l.string

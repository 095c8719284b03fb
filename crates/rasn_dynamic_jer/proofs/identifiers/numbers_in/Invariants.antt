use Rattle.std.proofs.Common.{◌≡◌, ◌++◌, drop, option_map}
use Rattle.rasn_dynamic_jer.specs.Identifiers.{numbers_in}
use Rattle.rasn_dynamic_jer.proofs.identifiers.numbers_in.Given as goal

-- the numbers so far stand before those of the characters that follow
abbrev pub invariant-loop-character : goal.invariant-loop-character
invariant-loop-character l = numbers_in 0 l.fn.characters ≡ option_map (λ ns. l.numbers.items ++ ns) (numbers_in l.number (drop l.character-index l.fn.characters))

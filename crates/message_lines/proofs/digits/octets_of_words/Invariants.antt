use Rattle.std.proofs.Common.{◌≡◌, map, Some}
use Rattle.message_lines.specs.Digits.{octets_of_words}
use Rattle.message_lines.proofs.digits.octets_of_words.Given as goal

-- the octets so far are those of the words so far
abbrev pub invariant-loop-word : goal.invariant-loop-word
invariant-loop-word l = octets_of_words (map (λ x. x.now) l.yielded) ≡ Some l.octets.items

use Rattle.std.proofs.Common.{take}
use Rattle.rasn_strings.specs.Intervals.{expand}
use Rattle.rasn_strings.proofs.Least.{Least}
use Rattle.rasn_strings.proofs.permitted.next_from.Given as goal

-- the least of the characters so far that are the type's and not below `at`
abbrev pub invariant-loop-character : goal.invariant-loop-character
invariant-loop-character l = Least (expand l.own) l.at (take l.character-index l.permitted) l.next

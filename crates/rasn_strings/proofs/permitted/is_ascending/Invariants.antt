use Rattle.std.proofs.Common.{◌≡◌, ◌&&◌, drop}
use Rattle.rasn_types.specs.Alphabets.{has_all}
use Rattle.rasn_strings.specs.Intervals.{expand}
use Rattle.rasn_strings.specs.Walks.{rises_from}
use Rattle.rasn_strings.proofs.permitted.is_ascending.Given as goal

-- whether the characters that are left are in order is whether all are
abbrev pub invariant-loop-character : goal.invariant-loop-character
invariant-loop-character l = (rises_from l.at (drop l.character-index l.permitted) && has_all (expand l.own) (drop l.character-index l.permitted)) ≡ (rises_from 0 l.permitted && has_all (expand l.own) l.permitted)

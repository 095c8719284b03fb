use Rattle.std.proofs.Common.{◌≡◌, drop}
use Rattle.rasn_types.specs.Alphabets.{has}
use Rattle.rasn_strings.specs.Intervals.{expand}
use Rattle.rasn_strings.proofs.intervals.contains.Given as goal

-- whether the intervals that are left have the character is whether all have it
abbrev pub invariant-loop-interval : goal.invariant-loop-interval
invariant-loop-interval l = has (expand (drop l.interval-index l.intervals)) l.character ≡ has (expand l.intervals) l.character

use Rattle.std.proofs.Common.{◌≡◌, ◌+◌, length}
use Rattle.rasn_types.specs.Alphabets.{index_of, restricted}
use Rattle.rasn_strings.specs.Intervals.{expand}
use Rattle.rasn_strings.specs.Walks.{from_on}
use Rattle.rasn_strings.proofs.IntervalsOf.{later}
use Rattle.rasn_strings.proofs.permitted.index_of.Given as goal

-- the place among those that are left, so many places on, is the place among all
abbrev pub invariant-loop-next : goal.invariant-loop-next
invariant-loop-next l = record {
  counted : l.index + length (from_on l.at (restricted (expand l.own) l.permitted)) ≡ length (restricted (expand l.own) l.permitted);
  passed : later l.index (index_of l.character (from_on l.at (restricted (expand l.own) l.permitted))) ≡ index_of l.character (restricted (expand l.own) l.permitted);
}

abbrev pub decreases-loop-next : goal.decreases-loop-next
decreases-loop-next l = length (from_on l.at (restricted (expand l.own) l.permitted))

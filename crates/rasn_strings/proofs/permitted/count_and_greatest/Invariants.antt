use Rattle.std.proofs.Common.{◌≡◌, ◌+◌, ◌^◌, ◌≤◌, max, length}
use Rattle.rasn_types.specs.Alphabets.{greatest, restricted}
use Rattle.rasn_strings.specs.Intervals.{expand}
use Rattle.rasn_strings.specs.Walks.{from_on}
use Rattle.rasn_strings.proofs.permitted.count_and_greatest.Given as goal

-- the characters so far and those that are left are all
abbrev pub invariant-loop-character : goal.invariant-loop-character
invariant-loop-character l = record {
  small : l.at ≤ 2 ^ 16;
  passed : l.greatest ≤ l.at;
  counted : l.count + length (from_on l.at (restricted (expand l.own) l.permitted)) ≡ length (restricted (expand l.own) l.permitted);
  compared : max l.greatest (greatest (from_on l.at (restricted (expand l.own) l.permitted))) ≡ greatest (restricted (expand l.own) l.permitted);
}

abbrev pub decreases-loop-character : goal.decreases-loop-character
decreases-loop-character l = length (from_on l.at (restricted (expand l.own) l.permitted))

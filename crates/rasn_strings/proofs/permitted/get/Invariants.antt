use Rattle.std.proofs.Common.{◌≡◌, drop}
use Rattle.rasn_types.specs.Alphabets.{restricted}
use Rattle.rasn_strings.specs.Intervals.{expand}
use Rattle.rasn_strings.specs.Walks.{from_on}
use Rattle.rasn_strings.proofs.permitted.get.Given as goal

-- so many characters have been passed
abbrev pub invariant-loop : goal.invariant-loop
invariant-loop l = from_on l.at (restricted (expand l.own) l.permitted) ≡ drop l.counter (restricted (expand l.own) l.permitted)

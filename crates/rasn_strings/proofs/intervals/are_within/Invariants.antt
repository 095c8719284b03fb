use Rattle.std.proofs.Common.{◌≡◌, ◌&&◌, drop}
use Rattle.rasn_strings.specs.Intervals.{all_within}
use Rattle.rasn_strings.specs.declared.intervals.Interval.{Interval}
use Rattle.rasn_strings.proofs.intervals.are_within.Given as goal

-- whether those seen and those that are left are within is whether all are
abbrev pub invariant-loop-octet : goal.invariant-loop-octet
invariant-loop-octet l = let i : Interval = record { first = l.first; last = l.last } in (l.all && all_within i (drop l.octet-index l.octets)) ≡ all_within i l.octets

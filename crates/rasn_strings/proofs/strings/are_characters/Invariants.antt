use Rattle.std.proofs.Common.{◌≡◌, drop}
use Rattle.rasn_types.specs.Alphabets.{has_all}
use Rattle.rasn_strings.specs.Intervals.{expand}
use Rattle.rasn_strings.proofs.strings.are_characters.Given as goal

-- whether the intervals have all octets that are left is whether they have all
abbrev pub invariant-loop-octet : goal.invariant-loop-octet
invariant-loop-octet l = has_all (expand l.intervals) (drop l.octet-index l.octets) ≡ has_all (expand l.intervals) l.octets

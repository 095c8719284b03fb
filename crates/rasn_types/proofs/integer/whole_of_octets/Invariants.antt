use Rattle.std.proofs.Common.{◌≡◌, drop}
use Rattle.rasn_types.specs.Bits.{signed}
use Rattle.rasn_types.proofs.Reading.{read_on}
use Rattle.rasn_types.proofs.integer.whole_of_octets.Given as goal

-- the number so far, read on to the end, is what the octets mean
abbrev pub invariant-loop-octet : goal.invariant-loop-octet
invariant-loop-octet l = read_on l.number (drop l.octet-index l.octets) ≡ signed l.octets

use Rattle.std.proofs.Common.{◌≡◌, take}
use Rattle.rasn_types.specs.Bits.{unsigned}
use Rattle.per_read.proofs.numbers.natural_of_octets.Given as goal

-- the number so far is that of the octets so far
abbrev pub invariant-loop-octet : goal.invariant-loop-octet
invariant-loop-octet l = l.number ≡ unsigned (take l.octet-index l.octets)

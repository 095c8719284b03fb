use Rattle.per_bits.proofs.LowBits.{OfOctets}
use Rattle.per_bits.proofs.bit_fields.field_of.Given as goal

abbrev pub invariant-loop-octet : goal.invariant-loop-octet
invariant-loop-octet l = OfOctets l.width l.octet-index l.field l.octets

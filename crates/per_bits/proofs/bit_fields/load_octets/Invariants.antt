use Rattle.std.proofs.Common.{◌≡◌, ◌*◌, ◌^◌, ◌<◌, take}
use Rattle.rasn_types.specs.Bits.{to_bits, unpack}
use Rattle.per_bits.proofs.bit_fields.load_octets.Given as goal

-- the word is the number of the octets so far
abbrev pub invariant-loop-octet : goal.invariant-loop-octet
invariant-loop-octet l = record {
  bits : to_bits (8 * l.octet-index) l.word ≡ unpack (take l.octet-index l.octets);
  below : l.word < 2 ^ (8 * l.octet-index);
}

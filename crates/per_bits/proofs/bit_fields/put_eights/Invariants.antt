use Rattle.std.proofs.Common.{◌≡◌, ◌+◌, ◌*◌, ◌-◌, ◌/◌, ◌%◌, ◌^◌, ◌++◌, length, take}
use Rattle.rasn_types.specs.Bits.{to_bits, unpack}
use Rattle.per_bits.specs.Octets.{low_bits_of}
use Rattle.per_bits.proofs.bit_fields.put_eights.Given as goal

-- what was written, the bits that go on to the next word and the bits still to come are the whole
abbrev pub invariant-loop-rest : goal.invariant-loop-rest
invariant-loop-rest l = record {
  whole : length l.rest % 8 ≡ 0;
  long : length l.octets ≡ l.place + length l.rest / 8 * l.width + 8;
  zeros : l.front % 2 ^ (64 - l.used) ≡ 0;
  bits : (unpack (take l.place l.octets) ++ to_bits l.used (l.front / 2 ^ (64 - l.used))) ++ low_bits_of l.width l.rest ≡ take l.used (unpack l.fn.octets) ++ low_bits_of l.width l.from;
}

abbrev pub decreases-loop-rest : goal.decreases-loop-rest
decreases-loop-rest l = length l.rest

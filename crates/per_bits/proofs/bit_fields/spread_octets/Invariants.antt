use Rattle.std.proofs.Common.{◌≡◌, ◌+◌, ◌-◌, ◌*◌, ◌<◌, ◌++◌, length, take, drop, replicate, false}
use Rattle.rasn_types.specs.Bits.{unpack}
use Rattle.per_bits.specs.Octets.{word_size, low_bits_of}
use Rattle.per_bits.proofs.bit_fields.spread_octets.Given as goal

-- the octets so far have the bits in front of the place, after which there may be zeros
abbrev pub invariant-loop-at : goal.invariant-loop-at
invariant-loop-at l = record {
  long : length l.octets ≡ length l.fn.octets;
  few : l.at < l.count + 8;
  place : 8 * l.place ≡ l.width * l.at;
  bits : low_bits_of l.width (take l.at l.octets) ≡ take (l.width * l.at) (drop l.skip (unpack l.from ++ replicate word_size false));
}

abbrev pub decreases-loop-at : goal.decreases-loop-at
decreases-loop-at l = l.count - l.at

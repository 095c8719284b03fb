use Rattle.std.proofs.Common.{◌≡◌, ◌*◌, length, take, drop}
use Rattle.rasn_types.specs.Bits.{unpack}
use Rattle.per_bits.proofs.bit_fields.shift_octets.Given as goal

-- the octets so far are those of the others, and there are as many as before
abbrev pub invariant-loop-index : goal.invariant-loop-index
invariant-loop-index l = record {
  same : length l.octets ≡ length l.fn.octets;
  bits : unpack (take l.index l.octets) ≡ take (8 * l.index) (drop l.skip (unpack l.from));
}

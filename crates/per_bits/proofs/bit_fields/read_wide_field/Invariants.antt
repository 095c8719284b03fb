use Rattle.std.proofs.Common.{◌≡◌, ◌-◌, ◌^◌, ◌<◌, ◌≤◌, ◌++◌, take, drop}
use Rattle.rasn_types.specs.Bits.{to_bits, unpack}
use Rattle.per_bits.specs.Octets.{AreWithin}
use Rattle.per_bits.proofs.bit_fields.read_wide_field.Given as goal

-- the value and the bits that are left are all of them
abbrev pub invariant-loop-left : goal.invariant-loop-left
invariant-loop-left l = record {
  fewer : l.left ≤ l.count;
  within : AreWithin l.gone l.left l.rest;
  below : l.value < 2 ^ (l.count - l.left);
  bits : to_bits (l.count - l.left) l.value ++ take l.left (drop l.gone (unpack l.rest)) ≡ take l.count (drop l.skip (unpack l.octets));
}

abbrev pub decreases-loop-left : goal.decreases-loop-left
decreases-loop-left l = l.left

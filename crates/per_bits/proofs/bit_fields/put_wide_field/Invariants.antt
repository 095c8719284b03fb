use Rattle.std.proofs.Common.{◌≡◌, ◌-◌, ◌≤◌, ◌++◌}
use Rattle.rasn_types.specs.Bits.{to_bits}
use Rattle.per_bits.specs.Octets.{filled, AreKept}
use Rattle.per_bits.proofs.bit_fields.put_wide_field.Given as goal

-- what is there and the bits still to come are the whole
abbrev pub invariant-loop-left : goal.invariant-loop-left
invariant-loop-left g l = record {
  fewer : l.left ≤ l.width;
  kept : AreKept (l.spare - (l.width - l.left)) l.octets.items;
  bits : filled (l.spare - (l.width - l.left)) l.octets.items ++ to_bits l.left l.value ≡ filled l.spare l.fn.octets.items ++ to_bits l.width l.value;
}

abbrev pub decreases-loop-left : goal.decreases-loop-left
decreases-loop-left g l = l.left

use Rattle.std.proofs.Common.{◌≡◌, ◌++◌, ◌+◌, ◌≤◌, length, take, vec_len, vec_capacity}
use Rattle.rasn_strings.proofs.units.append_units.Given as goal

abbrev pub invariant-loop-octet : goal.invariant-loop-octet
invariant-loop-octet l = record {
  items : l.units.items ≡ l.initial.units.items ++ take l.octet-index l.octets;
  room : vec_len l.units + length l.octets ≤ vec_capacity l.units + l.octet-index;
}

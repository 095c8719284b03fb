use Rattle.std.proofs.Common.{◌≡◌, encode_utf8_all, string_bytes, take}
use Rattle.rasn_dynamic_jer.proofs.leaves.latin.Given as goal

abbrev pub invariant-loop-octet : goal.invariant-loop-octet
invariant-loop-octet l = string_bytes l.text ≡ encode_utf8_all (take l.octet-index l.fn.octets)

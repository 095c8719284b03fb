use Rattle.std.proofs.Common.{◌≡◌, encode_utf8_all, string_bytes, take, true}
use Rattle.std.specs.Str.{all_scalars}
use Rattle.rasn_dynamic_jer.proofs.leaves.scalars.Given as goal

abbrev pub invariant-loop-unit : goal.invariant-loop-unit
invariant-loop-unit l = record { spelled : string_bytes l.text ≡ encode_utf8_all (take l.unit-index l.unit-items); scalars : all_scalars (take l.unit-index l.unit-items) ≡ true }

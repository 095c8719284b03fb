use Rattle.std.proofs.Common.{◌≡◌, length, take}
use Rattle.rasn_dynamic.proofs.times.octets_of.Given as goal

abbrev pub invariant-loop-index : goal.invariant-loop-index
invariant-loop-index l = record { filled : take l.index l.octets ≡ take l.index l.units; count : length l.octets ≡ 25 }

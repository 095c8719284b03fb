use Rattle.std.proofs.Common.{◌≡◌, ◌≤◌, length, take}
use Rattle.rasn_types.specs.Bits.{trimmed}
use Rattle.rasn_types.proofs.bit_string.BitString.trimmed_len.Given as goal

-- the bits that are left are trimmed to the same ones
abbrev pub invariant-loop-len : goal.invariant-loop-len
invariant-loop-len l = record { few : l.len ≤ length l.self; same : trimmed (take l.len l.self) ≡ trimmed l.self }

abbrev pub decreases-loop-len : goal.decreases-loop-len
decreases-loop-len l = l.len

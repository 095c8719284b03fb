use Rattle.std.proofs.Common.{◌≡◌, ◌≤◌, ◌++◌, ◌-◌, false, length, max, replicate}
use Rattle.rasn_types.specs.Bits.{trimmed}
use Rattle.rasn_types.proofs.bit_string.BitString.trimmed_to.Given as goal

-- so many zero bits are after the trimmed ones
abbrev pub invariant-loop : goal.invariant-loop
invariant-loop l = record { few : l.counter ≤ max l.len l.least; filled : l.bits ≡ trimmed l.self ++ replicate (l.counter - length (trimmed l.self)) false }

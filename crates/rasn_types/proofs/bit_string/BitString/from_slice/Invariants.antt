use Rattle.std.proofs.Common.{◌≡◌, take}
use Rattle.rasn_types.proofs.bit_string.BitString.from_slice.Given as goal

-- the bits so far
abbrev pub invariant-loop-bit : goal.invariant-loop-bit
invariant-loop-bit l = l.kept ≡ take l.bit-index l.bits

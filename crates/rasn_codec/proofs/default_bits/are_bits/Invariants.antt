use Rattle.std.proofs.Common.{◌≡◌, drop, length}
use Rattle.std.specs.Bool.{beq}
use Rattle.std.specs.Cmp.Lexicographic.{pointwise}
use Rattle.rasn_codec.proofs.default_bits.are_bits.Given as goal

-- the bits that are left are the same exactly where all are
abbrev pub invariant-loop-index : goal.invariant-loop-index
invariant-loop-index l = (pointwise beq (drop l.index l.string) (drop l.index l.bits) ≡ pointwise beq l.string l.bits) × (length l.string ≡ length l.bits)

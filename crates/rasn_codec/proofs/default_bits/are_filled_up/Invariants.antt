use Rattle.std.proofs.Common.{◌≡◌, drop, length}
use Rattle.std.specs.Bool.{beq}
use Rattle.std.specs.Cmp.Lexicographic.{pointwise}
use Rattle.rasn_types.specs.Bits.{filled_up, trimmed}
use Rattle.rasn_codec.proofs.default_bits.are_filled_up.Given as goal

-- the bits that are left are the same exactly where all are
abbrev pub invariant-loop-place : goal.invariant-loop-place
invariant-loop-place l =
    (pointwise beq (drop l.place (filled_up l.least (trimmed l.string))) (drop l.place l.bits) ≡ pointwise beq (filled_up l.least (trimmed l.string)) l.bits)
    × (length (filled_up l.least (trimmed l.string)) ≡ length l.bits)

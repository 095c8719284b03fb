use Rattle.std.proofs.Common.{◌≡◌, drop, length}
use Rattle.std.specs.Bool.{beq}
use Rattle.std.specs.Cmp.Lexicographic.{pointwise}
use Rattle.rasn_types.specs.Bits.{filled_up, trimmed}
use Rattle.rasn_dynamic.proofs.defaults.are_filled_up.Given as goal

-- the bits that are left are the same exactly where all are
abbrev pub invariant-loop-index : goal.invariant-loop-index
invariant-loop-index l =
    (pointwise beq (drop l.index (filled_up l.least (trimmed l.own))) (drop l.index l.told) ≡ pointwise beq (filled_up l.least (trimmed l.own)) l.told)
    × (length (filled_up l.least (trimmed l.own)) ≡ length l.told) × (l.count ≡ length l.told)

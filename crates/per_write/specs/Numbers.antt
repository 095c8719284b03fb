-- INTEGER, with and without bounds (ITU-T X.691, 13).
use Rattle.std.specs.Prelude.{ℤ}
use Rattle.rasn_types.specs.Bits.{whole_bits}
use Rattle.rasn_types.specs.Variants.{Variant}
use Rattle.rasn_constraints.specs.Bounds.{holds, Bounds}
use Rattle.per_core.specs.Counts.{counted_octets}
use Rattle.per_core.specs.Writers.{Writer, written_if}

-- X.691 13.2.4: a number without bounds, where its type has it
abbrev pub unconstrained_whole : Variant → Bounds → ℤ → Writer
unconstrained_whole a range z = written_if (holds range z) (counted_octets a (whole_bits z))

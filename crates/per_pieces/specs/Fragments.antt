-- One length, and the items that it counts.
use Rattle.std.specs.Prelude.{ℕ, ◌+◌, ◌-◌, ◌*◌, Bool, List, length}
use Rattle.rasn_types.specs.Bits.{to_bits}
use Rattle.rasn_types.specs.Variants.{Variant}
use Rattle.per_core.specs.Writers.{Writer, just, ◌▹◌, padding, one_by_one}
use Rattle.per_core.specs.Counts.{constrained_whole, determinant, padding_if}

-- X.691 11.9.3.5 to 11.9.3.8: an unconstrained length, which begins on an octet in the aligned variant
abbrev pub unconstrained_length : Variant → ℕ → Writer
unconstrained_length a count = padding a ▹ just (determinant count)

-- X.691 11.9.3.5: so many octets of a number after their count as an unconstrained length
abbrev pub counted_number : Variant → ℕ → ℕ → Writer
counted_number a octets n = unconstrained_length a octets ▹ just (to_bits (8 * octets) n)

-- X.691 11.9.4.1: a length from a lower to an upper bound, and the padding in front of items that begin on an octet
abbrev pub constrained_length : Variant → ℕ → ℕ → ℕ → Bool → Writer
constrained_length a lower upper count on_octet = constrained_whole a (upper - lower + 1)
    (count - lower) ▹ padding_if on_octet a

-- X.691 11.9.3.5 to 11.9.3.8: items after one length
abbrev pub one_fragment : Variant → List Writer → Writer
one_fragment a items = unconstrained_length a (length items) ▹ one_by_one items

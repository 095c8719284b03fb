-- Bitmaps of additions, and unknown additions, as they are read (X.691 19.7 to 19.9).
use Rattle.std.specs.Prelude.{◌<◌, ◌-◌, ℕ, true, List, Bool, [], ◌∷◌, length}
use Rattle.rasn_constraints.specs.Bounds.{any_size}
use Rattle.per_core.specs.Basic.{Sized, bit}
use Rattle.per_core.specs.Counts.{bit_items}
use Rattle.per_core.specs.Spellings.{Settings, Spelling, Then, When, BitField, exactly}
use Rattle.per_read.specs.OpenTypes.{fragments_of}

-- X.691 11.9.3.4: a bitmap after its length less one in six bits
abbrev pub small_bitmap : List Bool → Spelling
small_bitmap flags = When (0 < length flags) (Then (BitField 6 (length flags - 1)) (exactly flags))

-- X.691 11.9.3.4: a bitmap after an unconstrained length
abbrev pub large_bitmap : Settings → List Bool → Spelling
large_bitmap a flags = When (0 < length flags) (Sized a any_size bit_items bit flags)

-- X.691 11.9.3.4, 11.9.3.8: a bit 1 and the length of a fragment of n bits
abbrev pub large_fragments_of : Settings → ℕ → Spelling
large_fragments_of a n = Then (exactly (true ∷ [])) (fragments_of a n)

-- Whole numbers and the octets that mean them.
use Rattle.std.specs.Prelude.{◌≡◌, ℕ, ◌-◌, ◌^◌, ◌<◌, ◌≤◌, Bool, ◌&&◌, List, length, ℤ, pos, negsuc}
use lib.Signed.{le_z}
use Rattle.rasn_types.specs.Bits.{signed}

-- the numbers that an `i128` holds: from -2^127 to 2^127 - 1
abbrev pub is_i128 : ℤ → Bool
is_i128 z = le_z (negsuc (2 ^ 127 - 1)) z && le_z z (pos (2 ^ 127 - 1))

-- the fewest octets that mean a number: one or more, and no fewer mean it (X.690 8.3.1, 8.3.2)
pub record AreFewest (z : ℤ) (octets : List ℕ) : Type 0 where
  pub some : 0 < length octets
  pub mean : signed octets ≡ z
  pub fewest : (others : List ℕ) → 0 < length others → signed others ≡ z → length octets ≤ length others

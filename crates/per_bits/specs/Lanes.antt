-- Fields of one size that are side by side in a number, the last of them its lowest bits.
use Rattle.std.specs.Prelude.{◌≡◌, ℕ, zero, suc, ◌+◌, ◌-◌, ◌*◌, ◌/◌, ◌%◌, ◌^◌, ◌<◌, [], ◌++◌}
use Rattle.rasn_types.specs.Bits.{Bits, to_bits}

-- the low w bits of each of n fields of k bits, the highest field's first
abbrev pub low_of_each : ℕ → ℕ → ℕ → ℕ → Bits
low_of_each w k zero x = []
low_of_each w k (suc n) x = low_of_each w k n (x / 2 ^ k) ++ to_bits w x

-- no bit but these is set in the fields
abbrev pub AreNarrow : ℕ → ℕ → ℕ → ℕ → Type 0
AreNarrow w k zero x = Unit {0}
AreNarrow w k (suc n) x = AreNarrow w k n (x / 2 ^ k) × (x % 2 ^ k < 2 ^ w)

-- the number in which these bits are ones, and all others zeros
abbrev pub ones_of : ℕ → ℕ → ℕ → ℕ
ones_of w k zero = 0
ones_of w k (suc n) = ones_of w k n * 2 ^ k + (2 ^ w - 1)

-- y is x but that the fields were moved together in pairs: each of n pairs is one field, of twice as many bits
pub record Joined (w k n x y : ℕ) : Type 0 where
  pub bits : low_of_each (2 * w) (2 * k) n y ≡ low_of_each w k (2 * n) x
  pub narrow : AreNarrow (2 * w) (2 * k) n y

-- y is x but that each of n fields was parted in two, of half as many bits
pub record Parted (w k n x y : ℕ) : Type 0 where
  pub bits : low_of_each w k (2 * n) y ≡ low_of_each (2 * w) (2 * k) n x
  pub narrow : AreNarrow w k (2 * n) y

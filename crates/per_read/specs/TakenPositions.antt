-- Where what was taken stands.
use Rattle.std.specs.Prelude.{◌≡◌, ◌++◌, ℕ, length}
use Rattle.rasn_types.specs.Bits.{Bits}

-- Of the bits s, those were taken that are in front of t, and so many of them last.
pub record LastTaken (count : ℕ) (bits s t : Bits) : Type 0 where
  pub before : Bits
  pub joins : s ≡ before ++ (bits ++ t)
  pub wide : length bits ≡ count

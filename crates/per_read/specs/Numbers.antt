-- Numbers as they are read.
use lib.Signed.{le_z}
use Rattle.std.specs.Prelude.{◌≡◌, ℕ, ◌+◌, ◌^◌, ◌≤◌, true, Option, Some, None, ℤ, pos, negsuc}
use Rattle.rasn_types.specs.Variants.{aligned}
use Rattle.rasn_constraints.specs.Bounds.{above}
use Rattle.per_core.specs.Spellings.{Settings, Spelling, Then, When, AnyPadding, BitField}
use Rattle.per_core.specs.Basic.{constrained_form}
use Rattle.per_read.specs.declared.numbers.ReadNumber.{ReadNumber}
use Rattle.per_read.specs.declared.numbers.ReadNumber.TheVariants.{Held, Below, Above}

-- X.691 11.5.7: a number of some bits, after padding
abbrev pub padded_field : Settings → ℕ → ℕ → Spelling
padded_field a w o = Then (AnyPadding a) (BitField w o)

-- a fact about the number without sign that was read; none stands for one that no `u128` holds
abbrev pub OfNatural : (ℕ → Type 0) → Option ℕ → Type 0
OfNatural P (Some n) = P n
OfNatural P None = (n : ℕ) × (2 ^ 128 ≤ n) × P n

-- a fact about the number that was read
abbrev pub OfRead : (ℤ → Type 0) → ReadNumber → Type 0
OfRead P (Held z) = P z
OfRead P Below = (n : ℕ) × (2 ^ 127 ≤ n) × P (negsuc n)
OfRead P Above = (n : ℕ) × (2 ^ 127 ≤ n) × P (pos n)

-- a number stands o above l
abbrev pub IsAbove : ℤ → ℕ → ℤ → Type 0
IsAbove l o z = (le_z l z ≡ true) × (above l z ≡ o)

-- X.691 11.5.6, 11.5.7.1 to 11.5.7.3: the o-th of n numbers, where one field has it: in the aligned variant of 65536
-- numbers or fewer
abbrev pub in_one_field : Settings → ℕ → ℕ → Spelling
in_one_field a n o = When (a.variant ≡ aligned → n ≤ 65536) (constrained_form a n o)

-- X.691 11.5: a number of two bounds, where one field has it
abbrev pub between_in_field : Settings → ℤ → ℤ → ℤ → Spelling
between_in_field a l u z = When (le_z l z ≡ true) (in_one_field a (above l u + 1) (above l z))

-- What a refusal says of a number (ITU-T X.691, 11.5 to 11.8 and 13).
use lib.Signed.{le_z}
use Rattle.std.specs.Prelude.{◌≡◌, ◌⊎◌, ℕ, ◌+◌, ◌*◌, ◌/◌, Bool, true, false, if◌then◌else◌, []}
use Rattle.std.specs.Prelude.{Option, Some, None, ℤ, ◌∷◌}
use Rattle.rasn_types.specs.Bits.{Bits, width}
use Rattle.rasn_types.specs.Variants.{Variant, aligned, unaligned}
use Rattle.rasn_constraints.specs.Bounds.{above, holds, fits_i128, Bounds, unbounded, lower_of, upper_of, value_of}
use Rattle.per_core.specs.Spellings.{Settings, Spelling, When, never, BitField, Took, Then, exactly}
use Rattle.per_core.specs.Basic.{IsNumberOf, IsSemiConstrainedWhole, IsUnconstrainedWhole, Octets, Marked}
use Rattle.per_core.specs.Basic.{constrained_form}
use Rattle.per_core.specs.Counts.{by_range}
use Rattle.per_core.specs.BitFieldFaults.{Behind, IsOfBitField, IsOfMarked, IsOfPadded, IsOfUnconstrained, Says}
use Rattle.per_core.specs.declared.decode_error.DecodeErrorKind.{DecodeErrorKind}
use Rattle.per_core.specs.declared.decode_error.DecodeErrorKind.TheVariants.{ValueConstraintNotSatisfied}
use Rattle.per_core.specs.declared.decode_error.DecodeErrorKind.TheVariants.{IntegerOverflow, UnexpectedEmptyInput}

-- X.691 11.5.7.4: how wide the count is of the octets of one of n numbers
abbrev pub count_width : ℕ → ℕ
count_width n = width ((width n + 7) / 8)

-- X.691 11.5.7.4: of one of n numbers in counted octets
abbrev pub IsOfCounted : Settings → ℕ → Says
IsOfCounted a n s k = IsOfBitField (count_width n) s k
    ⊎ ((more : ℕ) × Behind (BitField (count_width n) more) (IsOfPadded a (8 * (more + 1))) s k)

-- X.691 11.5.6, 11.5.7: of one of n numbers, by the variant
abbrev pub IsOfConstrainedBy : Variant → Settings → ℕ → Says
IsOfConstrainedBy unaligned a n = IsOfBitField (width n)
IsOfConstrainedBy aligned a n = by_range n (IsOfBitField (width n)) (IsOfPadded a 8) (IsOfPadded a 16) (IsOfCounted a n)

-- X.691 11.5.6, 11.5.7: of one of n numbers
abbrev pub IsOfConstrained : Settings → ℕ → Says
IsOfConstrained a n = IsOfConstrainedBy a.variant a n

-- X.691 11.5, 11.7, 11.8: a number as bounds have it written, whether it is within them or not
abbrev pub under_bounds : Settings → Option ℤ → Option ℤ → ℤ → Spelling
under_bounds a None high z = IsUnconstrainedWhole a z
under_bounds a (Some l) None z = When (le_z l z ≡ true) (IsSemiConstrainedWhole a (above l z))
under_bounds a (Some l) (Some u) z = When (le_z l z ≡ true) (constrained_form a (above l u + 1) (above l z))

-- a number, where an i128 holds it
abbrev pub in_i128 : ℤ → Option ℤ
in_i128 z = if fits_i128 z then Some z else None

-- X.691 13.2: a number after no extension bit 1 is outside its bounds, which are named; it is named where an i128
-- holds it
pub record IsOutside (a : Settings) (bounds : Bounds) (mark : Bool) (named low high : Option ℤ)
    (s : Bits) : Type 0 where
  pub number : ℤ
  pub rest : Bits
  pub outside : holds bounds number ≡ false
  pub is_named : named ≡ in_i128 number
  pub is_low : low ≡ bounds.low
  pub is_high : high ≡ bounds.high
  pub took : Took (Marked mark (under_bounds a bounds.low bounds.high) (λ z. never) number) s rest

-- X.691 11.7, 11.8: no octets, where bounds have a number written in octets
abbrev pub no_octets : Settings → Bounds → Spelling
no_octets a bounds = elim bounds.low [
  | None ↦ Octets a []
  | Some l ↦ elim bounds.high
      [ None ↦ Octets a [] | Some u ↦ never ]
]

-- a number of no octets is there, under its bounds or after an extension bit 1
pub record IsEmpty (a : Settings) (bounds : Bounds) (mark : Bool) (s : Bits) : Type 0 where
  pub rest : Bits
  pub took : Took (Marked mark (no_octets a) (λ b. no_octets a unbounded) bounds) s rest

-- what a kind says of octets that are to be a number
abbrev pub IsOfOctets : Settings → Bits → DecodeErrorKind → Type 0
IsOfOctets a s UnexpectedEmptyInput = (t : Bits) × Took (Octets a []) s t
IsOfOctets a s k = IsOfUnconstrained a 8 s k

-- what a kind says of a number as its bounds have it written
abbrev pub IsOfForm : Settings → Option ℤ → Option ℤ → Bits → DecodeErrorKind → Type 0
IsOfForm a None high s k = IsOfOctets a s k
IsOfForm a (Some l) None s k = IsOfOctets a s k
IsOfForm a (Some l) (Some u) s k = IsOfConstrained a (above l u + 1) s k

-- a number within bounds, as they have it written
abbrev pub within_bounds : Settings → Bounds → ℤ → Spelling
within_bounds a bounds z = When (holds bounds z ≡ true) (under_bounds a bounds.low bounds.high z)

-- X.691 13: a number is within its bounds, or after an extension bit 1, and is no number of its type's range, or
-- under bounds none that an i128 holds
pub record IsUnheld (a : Settings) (bounds : Bounds) (mark : Bool) (range : Bounds) (s : Bits) : Type 0 where
  pub number : ℤ
  pub rest : Bits
  pub took : Took (Marked mark (within_bounds a bounds) (IsUnconstrainedWhole a) number) s rest
  pub none : Took (IsNumberOf a bounds mark range number) s rest → ⊥

-- What a kind says of a number of a type's range under bounds. Which width an overflow names is tested.
abbrev pub IsOfNumber : Settings → Bounds → Bool → Bounds → Bits → DecodeErrorKind → Type 0
IsOfNumber a bounds mark range s UnexpectedEmptyInput = IsEmpty a bounds mark s
IsOfNumber a bounds mark range s (ValueConstraintNotSatisfied told) =
    IsOutside a bounds mark (value_of told) (lower_of told) (upper_of told) s
IsOfNumber a bounds mark range s (IntegerOverflow width) = IsUnheld a bounds mark range s
IsOfNumber a bounds mark range s k = IsOfMarked mark (IsOfForm a bounds.low bounds.high) (IsOfOctets a) s k

-- X.691 11.6: a normally small number in either form, also where an i128 doesn't hold it
abbrev pub small_form : Settings → ℕ → Spelling
small_form a = Marked true (BitField 6) (IsSemiConstrainedWhole a)

-- X.691 11.6: the large form of no octets
abbrev pub empty_form : Settings → Spelling
empty_form a = Then (exactly (true ∷ [])) (Octets a [])

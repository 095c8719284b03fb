-- Integers of a type, under its bounds, as they are read.
use Rattle.std.specs.Prelude.{◌≡◌, ℕ, ◌^◌, ◌≤◌, Bool, true, false, List, Option, Some, None, Result, ℤ, pos, negsuc}
use Rattle.rasn_types.specs.Bits.{Bits, width, signed}
use Rattle.rasn_constraints.specs.Bounds.{holds, fits_i128, Bounds, lower_of, upper_of, value_of}
use Rattle.per_core.specs.Basic.{IsNumberOf}
use Rattle.per_core.specs.Spellings.{Settings, Spelling, never}
use Rattle.per_read.specs.OctetFields.{AtOnce}
use Rattle.per_read.specs.ReaderState.{ReaderState}
use Rattle.per_read.specs.Takes.{Takes, memory_or}
use Rattle.per_core.specs.declared.decode_error.DecodeErrorKind.{DecodeErrorKind}
use Rattle.per_core.specs.declared.decode_error.DecodeErrorKind.TheVariants.{ValueConstraintNotSatisfied}
use Rattle.per_core.specs.declared.decode_error.DecodeErrorKind.TheVariants.{IntegerOverflow}
use Rattle.per_read.specs.declared.numbers.ReadNumber.{ReadNumber}
use Rattle.per_read.specs.declared.numbers.ReadNumber.TheVariants.{Held, Below, Above}
use Rattle.per_core.specs.NumberFaults.{IsOfNumber, in_i128}
use Rattle.per_read.specs.Numbers.{between_in_field}

-- a fact about each number that it may be
abbrev pub OfEach : (ℤ → Type 0) → ReadNumber → Type 0
OfEach P (Held z) = P z
OfEach P Below = (n : ℕ) → 2 ^ 127 ≤ n → P (negsuc n)
OfEach P Above = (n : ℕ) → 2 ^ 127 ≤ n → P (pos n)

-- What a kind says of a number that is no value of a type of a width: it is outside its bounds, or within these but
-- not in the type.
abbrev pub IsMissed : Bounds → ℕ → DecodeErrorKind → ℤ → Type 0
IsMissed bounds width (ValueConstraintNotSatisfied told) z = (holds bounds z ≡ false) × (value_of told ≡ in_i128 z)
    × (lower_of told ≡ bounds.low) × (upper_of told ≡ bounds.high)
IsMissed bounds width (IntegerOverflow w) z = (holds bounds z ≡ true) × (w ≡ width)
IsMissed bounds width _ z = ⊥

-- A number that was read is no value, and a kind that says why.
pub record Misfit (bounds range : Bounds) (width : ℕ) (k : DecodeErrorKind) (z : ℤ) : Type 0 where
  pub missed : IsMissed bounds width k z
  pub none : fits_i128 z ≡ true → holds bounds z ≡ true → holds range z ≡ true → ⊥

-- a number that was read is a value: an i128 holds it, it is within its bounds, and its type holds it
pub record IsFit (bounds range : Bounds) (r : ReadNumber) (z : ℤ) : Type 0 where
  pub held : r ≡ Held z
  pub fits : fits_i128 z ≡ true
  pub within : holds bounds z ≡ true
  pub in_range : holds range z ≡ true

-- a bound is there
abbrev pub AreSome : Bounds → Type 0
AreSome b = b.low ≡ None → b.high ≡ None → ⊥

-- X.691 13: a call that takes an INTEGER of a type's range, under bounds and after an extension bit where there is a
-- mark
abbrev pub TakesInteger : {I : Type 0} → Bounds → Bool → Bounds → (I → ℤ) → ReaderState → Result I DecodeErrorKind
    → ReaderState
    → Type 0
TakesInteger bounds mark range number =
    Takes (memory_or (λ a. IsOfNumber a bounds mark range)) (λ a. IsNumberOf a bounds mark range) (λ P i. P (number i))

-- X.691 13.2.4: a number in few octets, which are read at once
pub record InOctetField (a : Settings) (z : ℤ) (p : ℕ) (bits : Bits) : Type 0 where
  pub octets : List ℕ
  pub means : signed octets ≡ z
  pub spelled : AtOnce a octets p bits

-- X.691 13.2: a number of two bounds, where one field has it, and one without bounds in few octets
abbrev pub short_whole : Settings → Option ℤ → Option ℤ → ℤ → Spelling
short_whole a (Some l) (Some u) = between_in_field a l u
short_whole a None None = InOctetField a
short_whole a _ _ = λ z. never

-- X.691 13: such a number of a type's range, within its bounds
pub record IsShortNumber (a : Settings) (bounds range : Bounds) (z : ℤ) (p : ℕ) (bits : Bits) : Type 0 where
  pub within : holds bounds z ≡ true
  pub in_range : holds range z ≡ true
  pub spelled : short_whole a bounds.low bounds.high z p bits

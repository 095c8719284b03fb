-- What a refusal says of an identifier, a time or a DATE (ITU-T X.691, 24, 30 and 32).
use Rattle.std.specs.Prelude.{◌≡◌, ℕ, false, List, ◌⊎◌, zero, suc, [], Option, ℤ, pos}
use Rattle.rasn_types.specs.Alphabets.{visible}
use Rattle.rasn_types.specs.Bits.{Bits}
use Rattle.rasn_types.specs.Contents.{TimeKind, is_identifier, is_time, is_date}
use Rattle.rasn_constraints.specs.Bounds.{any_size, between, lower_of, upper_of, value_of}
use Rattle.per_core.specs.Basic.{Octets, String, IsConstrainedWhole, Year}
use Rattle.per_core.specs.Spellings.{Settings, Took, Spelling, BitField, Then}
use Rattle.per_core.specs.BitFieldFaults.{IsOfUnconstrained, Behind, IsOfBitField, Says}
use Rattle.per_core.specs.SizeFaults.{IsOfString}
use Rattle.per_core.specs.NumberFaults.{IsOfConstrained, IsOutside}
use Rattle.per_core.specs.declared.decode_error.DecodeErrorKind.{DecodeErrorKind}
use Rattle.per_core.specs.declared.decode_error.DecodeErrorKind.TheVariants.{Below, InvalidDate, UnexpectedEmptyInput}
use Rattle.per_core.specs.declared.decode_error.DecodeErrorKind.TheVariants.{ValueConstraintNotSatisfied}

-- X.691 24: octets after an unconstrained length that are not the contents of an object
pub record IsNoObject (a : Settings) (s : Bits) : Type 0 where
  pub octets : List ℕ
  pub rest : Bits
  pub took : Took (Octets a octets) s rest
  pub no_object : is_identifier octets ≡ false

-- what a kind says of an OBJECT IDENTIFIER
abbrev pub IsOfIdentifier : Settings → Bits → DecodeErrorKind → Type 0
IsOfIdentifier a s Below = IsNoObject a s
IsOfIdentifier a s k = IsOfUnconstrained a 8 s k

-- X.680 46, 47: characters of a VisibleString that are not the text of a time
pub record IsNoTime (a : Settings) (kind : TimeKind) (s : Bits) : Type 0 where
  pub text : List ℕ
  pub rest : Bits
  pub took : Took (String a visible any_size false text) s rest
  pub no_time : is_time kind text ≡ false

-- what a kind says of a time
abbrev pub IsOfTime : Settings → TimeKind → Bits → DecodeErrorKind → Type 0
IsOfTime a kind s Below = IsNoTime a kind s
IsOfTime a kind s k = IsOfString a visible any_size false s k

-- X.691 32: a year, a month and a day, whether they are a day of the calendar or not; month and day are counted from 0
abbrev pub numbers_form : Settings → ℤ → ℕ → ℕ → Spelling
numbers_form a year month day = Then (Year a year) (Then (IsConstrainedWhole a 12 month) (IsConstrainedWhole a 31 day))

-- X.680 38.4: such numbers are no day of the calendar
pub record IsNoDay (a : Settings) (s : Bits) : Type 0 where
  pub year : ℤ
  pub month : ℕ
  pub day : ℕ
  pub rest : Bits
  pub took : Took (numbers_form a year month day) s rest
  pub no_day : is_date year (suc month) (suc day) ≡ false

-- a number that is none of 1 to 12 is after a year, or after its month one that is none of 1 to 31
pub data IsNoPart (a : Settings) (named low high : Option ℤ) (s : Bits) : Type 0 where
  no_month : {m : Bits} (year : ℤ) → Took (Year a year) s m → IsOutside a
      (between (pos 1) (pos 12)) false named low high m
      → IsNoPart a named low high s
  no_day_in_month : {m n : Bits} (year : ℤ) (month : ℕ) → Took (Year a year) s m
      → Took (IsConstrainedWhole a 12 month) m n
      → IsOutside a (between (pos 1) (pos 31)) false named low high n → IsNoPart a named low high s

-- a year that is none of a range stands as a number of no octets
pub record IsEmptyYear (a : Settings) (s : Bits) : Type 0 where
  pub rest : Bits
  pub took : Took (Then (BitField 2 3) (Octets a [])) s rest

-- of the year in a range, by the index of this
abbrev pub IsOfYearIn : Settings → ℕ → Says
IsOfYearIn a zero = IsOfConstrained a 16
IsOfYearIn a (suc zero) = IsOfConstrained a 256
IsOfYearIn a (suc (suc zero)) = IsOfConstrained a 256
IsOfYearIn a (suc (suc (suc n))) = IsOfUnconstrained a 8

-- of a year: of the index of its range, or of the year in that
abbrev pub IsOfYearField : Settings → Says
IsOfYearField a s k = IsOfBitField 2 s k ⊎ ((range : ℕ) × Behind (BitField 2 range) (IsOfYearIn a range) s k)

-- of the day after a year and a month
abbrev pub IsOfLastField : Settings → Says
IsOfLastField a m k = (month : ℕ) × Behind (IsConstrainedWhole a 12 month) (IsOfConstrained a 31) m k

-- of a year, of the month after it, or of the day after both
abbrev pub IsOfDayField : Settings → Says
IsOfDayField a s k = IsOfYearField a s k ⊎ (((year : ℤ) × Behind (Year a year) (IsOfConstrained a 12) s k)
    ⊎ ((year : ℤ) × Behind (Year a year) (IsOfLastField a) s k))

-- what a kind says of a DATE
abbrev pub IsOfDate : Settings → Bits → DecodeErrorKind → Type 0
IsOfDate a s InvalidDate = IsNoDay a s
IsOfDate a s (ValueConstraintNotSatisfied told) = IsNoPart a (value_of told) (lower_of told) (upper_of told) s
IsOfDate a s UnexpectedEmptyInput = IsEmptyYear a s
IsOfDate a s k = IsOfDayField a s k

-- The texts of moments (ITU-T X.680, 46 and 47; X.690, 11.7 and 11.8).
use Rattle.std.specs.Prelude.{◌≡◌, ◌<◌, ◌^◌, zero, suc, ℕ, ◌+◌, ◌/◌, ◌%◌, Bool, true, if◌then◌else◌, ◌&&◌, ◌==◌, List}
use Rattle.std.specs.Prelude.{[], ◌∷◌, ◌++◌, ℤ, pos}
use lib.Signed.{le_z}
use Rattle.rasn_types.specs.Contents.{year_size, is_moment, two, ends_well, is_fraction}
use Rattle.jiff.specs.Types.{DateTime}

-- the two last decimal digits of a number
abbrev pub two_digits : ℕ → List ℕ
two_digits n = (48 + n / 10 % 10) ∷ (48 + n % 10) ∷ []

-- MMDDhhmmss: month, day, hour, minute and second
abbrev pub month_to_second : DateTime → List ℕ
month_to_second t = two_digits t.date.month ++ two_digits t.date.day
    ++ two_digits t.time.hour ++ two_digits t.time.minute ++ two_digits t.time.second

-- X.680 47.3: whether a UTCTime can hold the moment: a whole second, of the years 1950 to 2049 (this project's choice)
abbrev pub is_utc_moment : DateTime → Bool
is_utc_moment t = (le_z (pos 1950) t.date.year && le_z t.date.year (pos 2049)) && t.time.subsec_nanosecond == 0

-- YYMMDDhhmmssZ
abbrev pub utc_characters : DateTime → List ℕ
utc_characters t = two_digits (year_size t.date.year % 100) ++ month_to_second t ++ 90 ∷ []

-- X.690 11.8: the text of a UTCTime, YYMMDDhhmmssZ; there is none where it can't hold the moment
unfoldable pub utc_text : DateTime → List ℕ
utc_text t = if is_utc_moment t then utc_characters t else []

-- two moments are one
pub record IsSameMoment (t u : DateTime) : Type 0 where
  pub year_is : t.date.year ≡ u.date.year
  pub month_is : t.date.month ≡ u.date.month
  pub day_is : t.date.day ≡ u.date.day
  pub hour_is : t.time.hour ≡ u.time.hour
  pub minute_is : t.time.minute ≡ u.time.minute
  pub second_is : t.time.second ≡ u.time.second
  pub fraction_is : t.time.subsec_nanosecond ≡ u.time.subsec_nanosecond

-- the moment is of this year, with the month to the second of MMDDhhmmss and this many nanoseconds
pub record IsMomentOf (year : ℤ) (digits : List ℕ) (nanosecond : ℤ) (t : DateTime) : Type 0 where
  pub moment : is_moment (year_size year) digits ≡ true
  pub year_is : t.date.year ≡ year
  pub month_is : t.date.month ≡ two 0 digits
  pub day_is : t.date.day ≡ two 2 digits
  pub hour_is : t.time.hour ≡ two 4 digits
  pub minute_is : t.time.minute ≡ two 6 digits
  pub second_is : t.time.second ≡ two 8 digits
  pub fraction_is : pos t.time.subsec_nanosecond ≡ nanosecond

-- the moment is that of a UTCTime with these digits
pub record IsUtcMomentOf (digits : List ℕ) (t : DateTime) : Type 0 where
  pub held : is_utc_moment t ≡ true
  pub written : utc_text t ≡ digits ++ 90 ∷ []

-- each moment that a UTCTime can hold has a text of its own
abbrev pub EachUtcTimeHasOneText : Type 0
EachUtcTimeHasOneText = (t u : DateTime) → is_utc_moment t ≡ true → is_utc_moment u ≡ true →
    utc_text t ≡ utc_text u → IsSameMoment t u

-- X.690 11.7.2, 11.7.3: the digits of a number of so many places, highest first, without trailing zeros
unfoldable pub fraction_digits : ℕ → ℕ → List ℕ
fraction_digits zero n = []
fraction_digits (suc places) n =
    if n == 0 then [] else (48 + n / 10 ^ places) ∷ fraction_digits places (n % 10 ^ places)

-- X.690 11.7.2, 11.7.3: a full stop and the fraction of a second of so many nanoseconds; nothing of 0
abbrev pub fraction_text : ℕ → List ℕ
fraction_text n = if n == 0 then [] else 46 ∷ fraction_digits 9 n

-- X.680 46.3: whether a GeneralizedTime can hold the moment: one of the years 0 to 9999 (this project's choice)
abbrev pub is_generalized_moment : DateTime → Bool
is_generalized_moment t = le_z (pos 0) t.date.year

-- YYYYMMDDhhmmss: the year's four digits, then month, day, hour, minute and second
abbrev pub year_to_second : DateTime → List ℕ
year_to_second t = two_digits (year_size t.date.year / 100) ++ two_digits (year_size t.date.year % 100)
    ++ month_to_second t

-- YYYYMMDDhhmmss, a fraction of the second if it isn't 0, and Z
abbrev pub generalized_characters : DateTime → List ℕ
generalized_characters t = year_to_second t ++ fraction_text t.time.subsec_nanosecond ++ 90 ∷ []

-- X.690 11.7: the text of a GeneralizedTime, YYYYMMDDhhmmss, the fraction and Z; there is none where it can't hold the
-- moment
unfoldable pub generalized_text : DateTime → List ℕ
generalized_text t = if is_generalized_moment t then generalized_characters t else []

-- the moment is that of a GeneralizedTime with these digits before the fraction, and with this many nanoseconds
pub record IsGeneralizedMomentOf (digits : List ℕ) (nanosecond : ℕ) (t : DateTime) : Type 0 where
  pub held : is_generalized_moment t ≡ true
  pub characters : year_to_second t ≡ digits
  pub fraction_is : t.time.subsec_nanosecond ≡ nanosecond

-- each moment that a GeneralizedTime can hold has a text of its own
abbrev pub EachGeneralizedTimeHasOneText : Type 0
EachGeneralizedTimeHasOneText = (t u : DateTime) → is_generalized_moment t ≡ true → is_generalized_moment u ≡ true →
    generalized_text t ≡ generalized_text u → IsSameMoment t u

-- the digits and the Z after them are those of a number
pub record IsFractionOf (places : ℕ) (text : List ℕ) (number : ℕ) : Type 0 where
  pub lawful : ends_well places text ≡ true
  pub some : 0 < number
  pub below : number < 10 ^ places
  pub written : fraction_digits places number ++ 90 ∷ [] ≡ text

-- what is after the seconds is the fraction of so many nanoseconds
pub record IsFractionText (text : List ℕ) (number : ℕ) : Type 0 where
  pub lawful : is_fraction text ≡ true
  pub below : number < 10 ^ 9
  pub written : fraction_text number ++ 90 ∷ [] ≡ text

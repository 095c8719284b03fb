-- The days that strings tell (ITU-T X.680, 38.4).
use Rattle.std.specs.Prelude.{◌≡◌, ℕ, ◌+◌, ◌-◌, ◌*◌, Bool, true, false, ◌&&◌, if◌then◌else◌, nat_eq, nat_le, List}
use Rattle.std.specs.Prelude.{Option, Some, None, neg_ℤ, slice_get, ℤ, pos}
use Rattle.std.specs.Cmp.Lexicographic.{pointwise}
use Rattle.jiff.specs.Types.{Date}
use Rattle.rasn_types.specs.Contents.{is_date}
use Rattle.rasn_types.specs.Values.{Value, day}
use Rattle.rasn_strings.specs.Dates.{IsDay}
use Rattle.json.specs.Json.{Json, string}
use Rattle.rasn_jer.specs.Strings.{day_text}

-- X.697: DATE: the text of a day of the calendar
abbrev pub date_json : Date → Option Json
date_json d = if is_date d.year d.month d.day then Some (string (day_text d.year d.month d.day)) else None

-- a character as a decimal digit; another counts for 0
abbrev pub digit_of : Option ℕ → ℕ
digit_of None = 0
digit_of (Some c) = if nat_le 48 c && nat_le c 57 then c - 48 else 0

-- the number that two characters show from a place on
abbrev pub two_shown : List ℕ → ℕ → ℕ
two_shown s i = 10 * digit_of (slice_get s i) + digit_of (slice_get s (i + 1))

-- the number that four characters show from a place on
abbrev pub four_shown : List ℕ → ℕ → ℕ
four_shown s i = 100 * two_shown s i + two_shown s (i + 2)

-- whether a character is a minus sign
abbrev pub is_minus : Option ℕ → Bool
is_minus None = false
is_minus (Some c) = nat_eq c 45

-- the year of a day, after a minus sign where it is below zero; the month after the year and a hyphen, and the day of
-- the month after another
abbrev pub year_shown : List ℕ → ℤ
year_shown s = if is_minus (slice_get s 0) then neg_ℤ (pos (four_shown s 1)) else pos (four_shown s 0)

abbrev pub month_shown : List ℕ → ℕ
month_shown s = if is_minus (slice_get s 0) then two_shown s 6 else two_shown s 5

abbrev pub day_shown : List ℕ → ℕ
day_shown s = if is_minus (slice_get s 0) then two_shown s 9 else two_shown s 8

-- the digits of a text are those of a day
pub record ShowsDay (s : List ℕ) (date : Date) : Type 0 where
  pub lawful : is_date (year_shown s) (month_shown s) (day_shown s) ≡ true
  pub is_day : IsDay (year_shown s) (month_shown s) (day_shown s) date

-- X.697: DATE: the day whose text the characters are
abbrev pub date_told : List ℕ → Option Value
date_told s = let y = year_shown s in let m = month_shown s in let d = day_shown s in
    if is_date y m d && pointwise nat_eq (day_text y m d) s then Some (day y m d) else None

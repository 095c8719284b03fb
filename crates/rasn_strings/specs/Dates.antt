-- Days of the calendar (ITU-T X.680, 38.4).
use Rattle.std.specs.Prelude.{◌≡◌, ℕ, ℤ}
use Rattle.jiff.specs.Types.{Date}

-- the date has this year, month and day
pub record IsDay (year : ℤ) (month day : ℕ) (date : Date) : Type 0 where
  pub year_is : date.year ≡ year
  pub month_is : date.month ≡ month
  pub day_is : date.day ≡ day

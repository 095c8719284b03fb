-- The year of a DATE, as it is read, and days that there are not (ITU-T X.691 32).
use Rattle.std.specs.Prelude.{◌≡◌, ◌⊎◌, ℕ, false, ℤ}
use Rattle.rasn_types.specs.Bits.{Bits}
use Rattle.rasn_types.specs.Contents.{is_date}
use Rattle.per_core.specs.Spellings.{Settings}
use Rattle.per_core.specs.declared.decode_error.DecodeErrorKind.{DecodeErrorKind}
use Rattle.per_core.specs.declared.decode_error.DecodeErrorKind.TheVariants.{InvalidDate, OutOfMemory}
use Rattle.per_core.specs.declared.decode_error.DecodeErrorKind.TheVariants.{UnexpectedEmptyInput}
use Rattle.per_core.specs.TimeFaults.{IsEmptyYear, IsOfYearField}

-- what a kind says of a year
abbrev pub IsOfYear : Settings → Bits → DecodeErrorKind → Type 0
IsOfYear a s UnexpectedEmptyInput = IsEmptyYear a s
IsOfYear a s k = IsOfYearField a s k

-- no day of the calendar has this year, month and day of the month; or memory ran out
abbrev pub IsNoDay : ℤ → ℕ → ℕ → DecodeErrorKind → Type 0
IsNoDay year month day kind = (kind ≡ OutOfMemory) ⊎ ((kind ≡ InvalidDate) × (is_date year month day ≡ false))

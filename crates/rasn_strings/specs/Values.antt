-- The values of times and dates (ITU-T X.680, 38.4, 46 and 47).
use Rattle.jiff.specs.Types.{Date, DateTime}
use Rattle.rasn_types.specs.Values.{Value, characters, day}
use Rattle.rasn_strings.specs.Moments.{generalized_text, utc_text}

-- X.680 47: a UTCTime is the characters of its text
abbrev pub utc_value : DateTime → Value
utc_value moment = characters (utc_text moment)

-- X.680 46: a GeneralizedTime is the characters of its text
abbrev pub generalized_value : DateTime → Value
generalized_value moment = characters (generalized_text moment)

-- X.680 38.4: a DATE is its year, its month and its day of the month
abbrev pub date_value : Date → Value
date_value date = day date.year date.month date.day

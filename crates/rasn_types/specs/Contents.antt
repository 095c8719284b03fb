-- Which contents a text, an identifier, a date and a time may have (ITU-T X.680, 32, 41, 46, 47; X.690, 8.19, 11.7,
-- 11.8).
use Rattle.std.specs.Prelude.{ℕ, zero, suc, ◌+◌, ◌-◌, ◌*◌, ◌%◌, ◌^◌, Bool, true, false, if◌then◌else◌, not, ◌&&◌, ◌||◌}
use Rattle.std.specs.Prelude.{nat_le, nat_lt, ◌==◌, List, [], ◌∷◌, length, take, drop, Option, Some, None, ℤ, pos}
use Rattle.std.specs.Prelude.{negsuc}
use lib.Signed.{le_z}

-- X.680 41: a UTF8String; or a GeneralString, GraphicString or TeletexString, which is any octets (this project's
-- choice)
pub data TextKind : Type 0 where
  utf8 other : TextKind

-- X.680 47 and 46: a UTCTime, or a GeneralizedTime
pub data TimeKind : Type 0 where
  utc generalized : TimeKind

-- UTF-8 (ISO/IEC 10646): how many octets a character still takes, and the bounds of the next
pub record Awaited : Type 0 where
  pub more : ℕ
  pub low : ℕ
  pub high : ℕ

-- n more octets are awaited, the next one from l to h
abbrev pub awaiting : ℕ → ℕ → ℕ → Option Awaited
awaiting n l h = Some (record { more = n; low = l; high = h })

-- what follows the first octet of a character: no overlong form, no surrogate, nothing past 10FFFF
abbrev pub first_octet : ℕ → Option Awaited
first_octet o =
    if nat_lt o 128 then awaiting 0 0 0
    else if nat_lt o 194 then None
    else if nat_lt o 224 then awaiting 1 128 191
    else if o == 224 then awaiting 2 160 191
    else if o == 237 then awaiting 2 128 159
    else if nat_lt o 240 then awaiting 2 128 191
    else if o == 240 then awaiting 3 144 191
    else if nat_lt o 244 then awaiting 3 128 191
    else if o == 244 then awaiting 3 128 143 else None

-- what follows one more octet; none where it may not be there
abbrev pub next_octet : Awaited → ℕ → Option Awaited
next_octet w o = if w.more == 0 then first_octet o else if nat_le w.low o && nat_le o w.high then awaiting
    (w.more - 1) 128 191 else None

-- whether octets end whole where this is awaited before them
abbrev pub utf8_after : Option Awaited → List ℕ → Bool
utf8_after None os = false
utf8_after (Some w) [] = w.more == 0
utf8_after (Some w) (o ∷ os) = utf8_after (next_octet w o) os

-- X.680 41: whether octets are a text of the kind: UTF-8 for a UTF8String, any octets for the others
unfoldable pub is_text : TextKind → List ℕ → Bool
is_text TextKind.utf8 os = utf8_after (awaiting 0 0 0) os
is_text TextKind.other os = true

-- X.690 8.19.2: whether a subidentifier has begun, its number so far, and the least number that it may not reach
pub record Arc : Type 0 where
  pub begun : Bool
  pub value : ℕ
  pub bound : ℕ

-- X.690 8.19.2: seven bits an octet, the high bit set on all but the last; no leading octet 80.
-- Arcs are below 2 ^ 32 (this project's choice).
abbrev pub next_arc : Arc → ℕ → Option Arc
next_arc c o =
    if nat_lt o 256 && (nat_lt (128 * c.value + o % 128) c.bound && (c.begun || not (o == 128))) then
    (if nat_lt o 128 then Some (record { begun = false; value = 0; bound = 2 ^ 32 })
    else Some (record { begun = true; value = 128 * c.value + o % 128; bound = c.bound }))
    else None

-- whether octets end whole where a subidentifier stands so before them
abbrev pub arcs_after : Option Arc → List ℕ → Bool
arcs_after None os = false
arcs_after (Some c) [] = not c.begun
arcs_after (Some c) (o ∷ os) = arcs_after (next_arc c o) os

-- X.690 8.19: whether octets are the contents of an OBJECT IDENTIFIER. The first subidentifier holds two arcs
-- (8.19.4): below 40 and 80 the first arc is 0 and 1, else it is 2, and 80 more than a second arc below 2 ^ 32.
unfoldable pub is_identifier : List ℕ → Bool
is_identifier [] = false
is_identifier (o ∷ os) = arcs_after (Some (record { begun = false; value = 0; bound = 2 ^ 32 + 80 })) (o ∷ os)

-- whether the year with this size is a leap year of the proleptic Gregorian calendar
abbrev pub leap : ℕ → Bool
leap n = n % 4 == 0 && (not (n % 100 == 0) || n % 400 == 0)

-- the size of a year's number, without its sign
abbrev pub year_size : ℤ → ℕ
year_size (pos n) = n
year_size (negsuc n) = n + 1

-- the days of a month of a year
abbrev pub days_in : ℤ → ℕ → ℕ
days_in y m = if m == 2 then (if leap (year_size y) then 29 else 28) else if m == 4 || m == 6 || m == 9
    || m == 11 then 30 else 31

-- X.680 38.4: whether year, month and day are a day of the calendar; years -9999 to 9999 (this project's choice)
abbrev pub is_date : ℤ → ℕ → ℕ → Bool
is_date y m d = nat_le 1 m &&
    (nat_le 1 d && (nat_le m 12 && (nat_le d (days_in y m) && (le_z (negsuc 9998) y && le_z y (pos 9999)))))

-- whether all characters are decimal digits
abbrev pub are_digits : List ℕ → Bool
are_digits [] = true
are_digits (c ∷ cs) = nat_le 48 c && (nat_le c 57 && are_digits cs)

-- the number whose digits are those of n and then these
abbrev pub decimal_from : ℕ → List ℕ → ℕ
decimal_from n [] = n
decimal_from n (c ∷ cs) = decimal_from (10 * n + (c - 48)) cs

-- the number of the two digits from place i on
abbrev pub two : ℕ → List ℕ → ℕ
two i cs = decimal_from 0 (take 2 (drop i cs))

-- whether the characters MMDDhhmmss, and what follows them, begin with a moment of year y; seconds of 60 are none
abbrev pub is_moment : ℕ → List ℕ → Bool
is_moment y cs = is_date (pos y) (two 0 cs) (two 2 cs) &&
    (nat_lt (two 4 cs) 24 && (nat_lt (two 6 cs) 60 && nat_lt (two 8 cs) 60))

-- whether the characters are Z alone
abbrev pub is_z : List ℕ → Bool
is_z [] = false
is_z (c ∷ []) = c == 90
is_z (c ∷ d ∷ cs) = false

-- X.690 11.7.2, 11.7.3: up to n digits, at least one and the last of them not 0, and then Z
abbrev pub ends_well : ℕ → List ℕ → Bool
ends_well n [] = false
ends_well zero (c ∷ cs) = false
ends_well (suc n) (c ∷ cs) = nat_le 48 c && (nat_le c 57 && ((not (c == 48) && is_z cs) || ends_well n cs))

-- X.690 11.7: Z alone, or a full stop, a fraction of up to nine digits that doesn't end in 0, and Z
abbrev pub is_fraction : List ℕ → Bool
is_fraction [] = false
is_fraction (c ∷ cs) = (c == 90 && is_z (c ∷ cs)) || (c == 46 && ends_well 9 cs)

-- X.690 11.7, 11.8: whether characters are the one text of a time. UTCTime is YYMMDDhhmmssZ, 00 to 49 meaning 20xx and
-- 50 to 99 meaning 19xx; GeneralizedTime is YYYYMMDDhhmmss, a fraction if there is one, and Z (this project's choice).
unfoldable pub is_time : TimeKind → List ℕ → Bool
is_time TimeKind.utc cs = nat_le 12 (length cs) && (are_digits (take 12 cs) &&
    (is_z (drop 12 cs) && is_moment ((if nat_lt (two 0 cs) 50 then 2000 else 1900) + two 0 cs) (drop 2 cs)))
is_time TimeKind.generalized cs = nat_le 14 (length cs) &&
    (are_digits (take 14 cs) && (is_fraction (drop 14 cs) && is_moment (decimal_from 0 (take 4 cs)) (drop 4 cs)))

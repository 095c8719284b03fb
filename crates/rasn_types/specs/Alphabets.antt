-- The known-multiplier character strings: how wide a character is, and its code (ITU-T X.691, 30.5).
-- An alphabet is its characters' values in ascending order, each once.
use Rattle.std.specs.Prelude.{ℕ, zero, suc, ◌+◌, ◌^◌, max, Bool, true, false, if◌then◌else◌, nat_le, nat_lt, ◌==◌, ◌&&◌}
use Rattle.std.specs.Prelude.{◌||◌, List, [], ◌∷◌, ◌++◌, length, filter, Option, Some, None}
use Rattle.rasn_types.specs.Bits.{width}
use Rattle.rasn_types.specs.Variants.{Variant, aligned, unaligned}

-- X.691 30.5.2, 30.5.3: the bits of one character; ALIGNED rounds them up to a power of two, and none stays none
abbrev pub char_width : Variant → List ℕ → ℕ
char_width unaligned alphabet = width (length alphabet)
char_width aligned alphabet = if nat_le (length alphabet) 1 then 0 else 2 ^ width (width (length alphabet))

-- the greatest of some characters' values; 0 where there is none
abbrev pub greatest : List ℕ → ℕ
greatest [] = 0
greatest (c ∷ cs) = max c (greatest cs)

-- the next place in a list, where there is one
abbrev pub more : Option ℕ → Option ℕ
more None = None
more (Some n) = Some (1 + n)

-- the place of a character in an alphabet, counted from 0; none where it isn't permitted
abbrev pub index_of : ℕ → List ℕ → Option ℕ
index_of c [] = None
index_of c (d ∷ ds) = if c == d then Some 0 else more (index_of c ds)

-- a character's own value where `own` says so, else its place; none where it has none
abbrev pub keep_own : Bool → ℕ → Option ℕ → Option ℕ
keep_own own c None = None
keep_own own c (Some i) = Some (if own then c else i)

-- X.691 30.5.4: the number that a character is written as: its own value where each permitted one fits its bits, else
-- its place
unfoldable pub char_code : Variant → List ℕ → ℕ → Option ℕ
unfolding width
char_code a alphabet c = keep_own (nat_lt (greatest alphabet) (2 ^ char_width a alphabet)) c (index_of c alphabet)

-- so many numbers in a row, from the second argument on
abbrev pub from_to : ℕ → ℕ → List ℕ
from_to zero c = []
from_to (suc n) c = c ∷ from_to n (suc c)

-- X.680 41: the alphabet of VisibleString, the characters 32 to 126
abbrev pub visible : List ℕ
visible = from_to 95 32

-- X.680 41: the alphabet of PrintableString: space, the marks ' ( ) + , - . / : = ?, the digits and the letters
abbrev pub printable : List ℕ
printable = 32 ∷ (from_to 3 39 ++ from_to 16 43 ++ 61 ∷ 63 ∷ (from_to 26 65 ++ from_to 26 97))

-- X.680 41: the alphabet of NumericString, space and the digits
abbrev pub numeric : List ℕ
numeric = 32 ∷ from_to 10 48

-- so many numbers in a row, from the second argument on, as a word that is not written out unasked
unfoldable pub interval_of : ℕ → ℕ → List ℕ
interval_of n c = from_to n c

-- X.680 41: the alphabet of IA5String, the characters 0 to 127
abbrev pub ia5 : List ℕ
ia5 = interval_of 128 0

-- X.680 41: the alphabet of BMPString, 0 to 65535, with the surrogates (this project's choice)
abbrev pub bmp : List ℕ
bmp = interval_of 65536 0

-- whether a list has a number
abbrev pub has : List ℕ → ℕ → Bool
has [] n = false
has (x ∷ xs) n = x == n || has xs n

-- whether a list has each of some numbers
abbrev pub has_all : List ℕ → List ℕ → Bool
has_all own [] = true
has_all own (c ∷ cs) = has own c && has_all own cs

-- X.680 51.7: the characters of a type that are among some, which may be in any order
abbrev pub restricted : List ℕ → List ℕ → List ℕ
restricted own some = filter (has some) own

-- X.691 30.4: the same, where some are given; else all
abbrev pub restricted_to : List ℕ → Option (List ℕ) → List ℕ
restricted_to own None = own
restricted_to own (Some some) = restricted own some

-- what an encoding of characters rests on: the variant, and the permitted characters in ascending order
pub record Alphabet : Type 0 where
  pub variant : Variant
  pub characters : List ℕ

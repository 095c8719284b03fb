-- The JSON of values in which no others are (ITU-T X.697).
use Rattle.std.specs.Prelude.{ℕ, zero, suc, ◌^◌, Bool, true, false, ◌&&◌, if◌then◌else◌, nat_eq, nat_lt, List, Option}
use Rattle.std.specs.Prelude.{Some, None, codes, decimal, encode_utf8_all, length, option_map, ℤ}
use Rattle.std.specs.Fmt.{signed_decimal}
use Rattle.std.specs.List.{list_all}
use Rattle.std.specs.Option.{option_eq}
use Rattle.std.specs.Str.{all_scalars, is_utf8}
use Rattle.rasn_types.specs.Alphabets.{bmp, has_all}
use Rattle.rasn_types.specs.Bits.{Bits}
use Rattle.rasn_types.specs.Contents.{generalized, is_time, utc}
use Rattle.rasn_types.specs.Integers.{is_i128}
use Rattle.rasn_types.specs.Packed.{packed}
use Rattle.rasn_constraints.specs.Constraints.{bounds_in}
use Rattle.rasn_constraints.specs.declared.constraints.Bounded.{Bounded}
use Rattle.rasn_constraints.specs.declared.constraints.Extensible.{Extensible}
use Rattle.rasn_schema.specs.Forms.{is_size_marked, size_of}
use Rattle.rasn_schema.specs.Normal.{normal_bits}
use Rattle.rasn_schema.specs.declared.items.Place.{Place}
use Rattle.rasn_dynamic.specs.Names.{name_at}
use Rattle.rasn_dynamic.specs.Types.{of_size}
use Rattle.rasn_dynamic.specs.declared.types.Simple.{Simple}
use Rattle.rasn_dynamic.specs.declared.types.Simple.TheVariants as Simples
use Rattle.rasn_dynamic.specs.declared.values.Value.TheOpen.{Value-F, Boolean, Null, Integer, Item, Octets}
use Rattle.rasn_dynamic.specs.declared.values.Value.TheOpen.{Bits as BitsF, Characters}
use Rattle.hex.specs.Hex.{encode_upper}
use Rattle.json.specs.Json.{Json, null, boolean, number, string, object, no_members, member}
use Rattle.rasn_jer.specs.Shown.{fixed_count}
use Rattle.rasn_dynamic_jer.specs.Identifiers.{identifier_json}

-- what takes a level of arrays and objects; with none left there is none
abbrev pub below : {A : Type 0} → ℕ → (ℕ → Option A) → Option A
below zero f = None
below (suc n) f = f n

-- X.697 20: BOOLEAN
abbrev pub truth_json : Simple → Bool → Option Json
truth_json Simples.Boolean b = Some (boolean b)
truth_json k b = None

-- X.697: NULL
abbrev pub null_json : Simple → Option Json
null_json Simples.Null = Some null
null_json k = None

-- X.697: INTEGER: decimal digits; a number past an i128 has no JSON (this project's choice)
abbrev pub number_json : Simple → ℤ → Option Json
number_json (Simples.Integer c) z = if is_i128 z then Some (number (signed_decimal z)) else None
number_json k z = None

-- X.697: ENUMERATED: the name of the item
abbrev pub item_json : Simple → Place → Option Json
item_json (Simples.Enumerated i) p = option_map string (name_at i p)
item_json k p = None

-- octets by their hexadecimal digits
abbrev pub hexadecimal : List ℕ → Json
hexadecimal os = string (encode_upper os)

-- whether numbers are octets
abbrev pub are_octets : List ℕ → Bool
are_octets os = list_all (λ o. nat_lt o 256) os

-- the same, of octets
abbrev pub digits_json : List ℕ → Option Json
digits_json os = if are_octets os then Some (hexadecimal os) else None

-- octets, of which each is the character with its number
abbrev pub latin_json : List ℕ → Option Json
latin_json os = if are_octets os then Some (string (encode_utf8_all os)) else None

-- octets that are a text in UTF-8
abbrev pub utf8_json : List ℕ → Option Json
utf8_json os = if is_utf8 os then Some (string os) else None

-- X.697: OCTET STRING and open types: hexadecimal digits; UTF8String; and GeneralString and its like, of which each
-- octet is the character with its number; OBJECT IDENTIFIER
abbrev pub octets_json : Simple → List ℕ → Option Json
octets_json (Simples.OctetString c) os = digits_json os
octets_json Simples.Open os = digits_json os
octets_json Simples.Utf8 os = utf8_json os
octets_json Simples.Text os = latin_json os
octets_json Simples.ObjectIdentifier os = identifier_json os
octets_json k os = None

-- bits that tell how many they are
abbrev pub counted : Bits → Json
counted bs = object (member (codes "value") (hexadecimal (packed bs))
    (member (codes "length") (number (decimal (length bs))) no_members))

-- the same, where they are fewer than 2 ^ 64 (this project's limit)
abbrev pub counted_json : Bits → Option Json
counted_json bs = if nat_lt (length bs) (2 ^ 64) then Some (counted bs) else None

-- the digits of bits' octets, spare bits zero: alone where there are as many as are fixed, and else in an object that
-- also tells how many there are
abbrev pub bits_shown : ℕ → Option ℕ → Bits → Option Json
bits_shown n fixed bs =
    if option_eq nat_eq fixed (Some (length bs)) then Some (hexadecimal (packed bs))
    else below n (λ m. counted_json bs)

-- X.680 51.5: how many there are, where a size without an extension marker is one number
abbrev pub fixed_by : Extensible (Bounded ℕ) → Option ℕ
fixed_by c = fixed_count (size_of (of_size c)) (is_size_marked (of_size c))

-- X.697: BIT STRING; of named bits those of the normal form: without zero bits at their end but those that the size
-- asks for (X.680 22.7; X.691 16.2)
abbrev pub bits_json : ℕ → Simple → Bits → Option Json
bits_json n (Simples.BitString c) bs = bits_shown n (fixed_by c) bs
bits_json n (Simples.NamedBits c) bs = bits_shown n (fixed_by c) (normal_bits (size_of (of_size c)).least bs)
bits_json n k bs = None

-- whether characters may be a value of a type: any of a character string, and of a time its canonical text (X.690
-- 11.7 and 11.8)
abbrev pub may_be_characters : Simple → List ℕ → Bool
may_be_characters (Simples.Characters s) cs = true
may_be_characters Simples.UtcTime cs = is_time utc cs
may_be_characters Simples.GeneralizedTime cs = is_time generalized cs
may_be_characters k cs = false

-- whether characters are of BMPString, and none is a surrogate
abbrev pub are_plain : List ℕ → Bool
are_plain cs = has_all bmp cs && all_scalars cs

-- X.697: a character string, UTCTime and GeneralizedTime: characters of BMPString that are scalar values of Unicode
abbrev pub characters_json : Simple → List ℕ → Option Json
characters_json k cs = if may_be_characters k cs && are_plain cs then Some (string (encode_utf8_all cs)) else None

-- the JSON of a value of a type in which no other is, within so many levels; none of a value of another kind
abbrev pub simple_json : {A : Type 0} → ℕ → Simple → Value-F A → Option Json
simple_json n k (Boolean b) = truth_json k b
simple_json n k Null = null_json k
simple_json n k (Integer z) = number_json k z
simple_json n k (Item p) = item_json k p
simple_json n k (Octets os) = octets_json k os
simple_json n k (BitsF bs) = bits_json n k bs
simple_json n k (Characters cs) = characters_json k cs
simple_json n k x = None

-- The canonical encoding of a value in normal form (ITU-T X.691, 12 to 24, 30 and 32).
use Rattle.std.specs.Prelude.{ℕ, zero, suc, ◌-◌, Bool, true, false, if◌then◌else◌, not, ◌&&◌, ◌||◌, nat_le, nat_lt}
use Rattle.std.specs.Prelude.{List, [], ◌∷◌, map, length, Option, Some, None, ℤ, pos, negsuc}
use lib.Signed.{le_z}
use Rattle.rasn_types.specs.Alphabets.{char_width, char_code, visible}
use Rattle.rasn_types.specs.Bits.{Bits, to_bits}
use Rattle.rasn_types.specs.Contents.{is_text, is_time, is_identifier, is_date}
use Rattle.rasn_types.specs.Values.{Value, whole, truth, nothing, item, octets, bits, characters, elements, bag, fields}
use Rattle.rasn_types.specs.Values.{alternative, day, Side, root, added, values, slots, same, sorted, before, bag_of}
use Rattle.rasn_types.specs.Variants.{Variant}
use Rattle.rasn_constraints.specs.Bounds.{holds, any_size}
use Rattle.rasn_schema.specs.Orders.{ordered}
use Rattle.rasn_schema.specs.Schemas
use Rattle.rasn_schema.specs.Schemas.{tags, Presence, required, optional, group, default, Schema, Parts, no_parts, part}
use Rattle.per_core.specs.Counts.{list_items, octet_items, bit_items, char_items, counted, octet_writers, bit_writers}
use Rattle.per_core.specs.Counts.{unconstrained_octets, number_form, number_under, open_bits, small, constrained_whole}
use Rattle.per_core.specs.Counts.{determinant}
use Rattle.per_core.specs.Writers.{Writer, just, refused, ◌▹◌, written_if, complete}

-- a code in w bits, where there is one
abbrev pub coded : ℕ → Option ℕ → Writer
coded w None = refused
coded w (Some i) = just (to_bits w i)

-- X.691 30.5.4: characters by their codes; one that isn't permitted has none
unfoldable pub char_writers : Variant → List ℕ → List ℕ → List Writer
unfolding char_code
char_writers a alphabet cs = map (λ c. coded (char_width a alphabet) (char_code a alphabet c)) cs

-- a part, addition or alternative, and how its value is written
pub record Member : Type 0 where
  pub presence : Presence
  pub writes : Value → Writer

-- X.691 19.2, 19.5: whether a part is written; one at its default isn't. None where the part can't be as it is: a
-- required one or one with a default that is absent
unfoldable pub shown : Presence → Option Value → Option Bool
unfolding same
shown required None = None
shown required (Some v) = Some true
shown optional None = Some false
shown optional (Some v) = Some true
shown group None = Some false
shown group (Some v) = Some true
shown (default d) None = None
shown (default d) (Some v) = Some (not (same v d))

-- X.691 19.2: the presence bit of an optional part or one with a default; a required one has none
abbrev pub flag : Presence → Bool → Bits
flag required b = []
flag optional b = b ∷ []
flag group b = b ∷ []
flag (default d) b = b ∷ []

-- a part's presence bit, where the part can be as it is
abbrev pub flagged : Presence → Option Bool → Writer
flagged pr None = refused
flagged pr (Some b) = just (flag pr b)

-- a part's value, where it is written
abbrev pub if_shown : Option Bool → Option Value → (Value → Writer) → Writer
if_shown None slot w = refused
if_shown (Some false) slot w = just []
if_shown (Some true) None w = refused
if_shown (Some true) (Some v) w = w v

-- X.691 19.2: the presence bits of all parts
abbrev pub flags_of : List Member → List (Option Value) → Writer
flags_of [] [] = just []
flags_of [] (s ∷ ss) = refused
flags_of (m ∷ ms) [] = refused
flags_of (m ∷ ms) (s ∷ ss) = flagged m.presence (shown m.presence s) ▹ flags_of ms ss

-- X.691 19.4, 19.6: the parts that are written, each from its own position
abbrev pub bodies_of : List Member → List (Option Value) → Writer
bodies_of [] [] = just []
bodies_of [] (s ∷ ss) = refused
bodies_of (m ∷ ms) [] = refused
bodies_of (m ∷ ms) (s ∷ ss) = if_shown (shown m.presence s) s m.writes ▹ bodies_of ms ss

-- a bit in front of others, where all are there
abbrev pub also_bit : Option Bool → Option Bits → Option Bits
also_bit None rest = None
also_bit (Some b) None = None
also_bit (Some b) (Some bs) = Some (b ∷ bs)

-- X.691 19.8: one bit for each addition of the schema, 1 where it is written
unfoldable pub bitmap_of : List Member → List (Option Value) → Option Bits
unfolding shown
bitmap_of [] [] = Some []
bitmap_of [] (s ∷ ss) = None
bitmap_of (m ∷ ms) [] = None
bitmap_of (m ∷ ms) (s ∷ ss) = also_bit (shown m.presence s) (bitmap_of ms ss)

-- whether a bit is 1
abbrev pub any_set : Bits → Bool
any_set [] = false
any_set (b ∷ bs) = b || any_set bs

-- X.691 19.7, 19.8, 11.9.3.4: the number of presence bits, normally small, and these bits
unfoldable pub bitmap : Variant → Bits → Writer
unfolding determinant constrained_whole
bitmap a flags = if nat_le (length flags) 64 then
    just (false ∷ to_bits 6 (length flags - 1)) ▹ just flags
    else just (true ∷ []) ▹ counted a any_size false bit_items (bit_writers flags)

-- X.691 19.9: each addition that is written, in an open type
abbrev pub opens_of : Variant → List Member → List (Option Value) → Bits → Writer
opens_of a (m ∷ ms) (Some v ∷ ss) (true ∷ bs) = open_bits a (m.writes v 0) ▹ opens_of a ms ss bs
opens_of a (m ∷ ms) (s ∷ ss) (b ∷ bs) = opens_of a ms ss bs
opens_of a ms ss bs = just []

-- X.691 14.3, 19.1, 23.5: the extension bit of a type with an extension marker
abbrev pub extension_bit : Bool → Bool → Writer
extension_bit false false = just []
extension_bit false true = refused
extension_bit true b = just (b ∷ [])

-- X.691 19.1, 19.7 to 19.9: the extension bit, 1 exactly where an addition is written; what is inside; and then the
-- additions
abbrev pub with_additions : Variant → Bool → List Member → List (Option Value) → Writer → Option Bits → Writer
with_additions a ext ms ss inner None = refused
with_additions a ext ms ss inner (Some bs) =
    extension_bit ext (any_set bs) ▹ inner ▹ (if any_set bs then bitmap a bs ▹ opens_of a ms ss bs else just [])

-- X.691 19, 21: the parts of a SEQUENCE or SET, in the order in which they are written, and its additions
unfoldable pub record_of : Variant → Bool → List Member → List Member → List (Option Value) → List (Option Value)
    → Writer
unfolding bitmap_of bitmap open_bits shown
record_of a ext ms adds ss ads =
    with_additions a ext adds ads (flags_of ms ss ▹ bodies_of ms ss) (bitmap_of adds ads)

-- the value of the alternative at a place
abbrev pub chosen : List Member → ℕ → Value → Writer
chosen [] i v = refused
chosen (m ∷ ms) zero v = m.writes v
chosen (m ∷ ms) (suc i) v = chosen ms i v

-- X.691 23: an alternative: of the root by a constrained whole number and in place, an addition by a normally small
-- number and in an open type
unfoldable pub choice_of : Variant → Bool → List Member → List Member → Side → ℕ → Value → Writer
unfolding constrained_whole small open_bits
choice_of a ext ms adds root i v = extension_bit ext false ▹ constrained_whole a (length ms) i ▹ chosen ms i v
choice_of a ext ms adds added i v = extension_bit ext true ▹ small a i ▹ open_bits a (chosen adds i v 0)

-- X.691 14: an item of an ENUMERATED: of the root by a constrained whole number, an addition by a normally small number
unfoldable pub item_of : Variant → ℕ → ℕ → Bool → Side → ℕ → Writer
unfolding constrained_whole small
item_of a roots addeds ext root i = extension_bit ext false ▹ constrained_whole a roots i
item_of a roots addeds ext added i = extension_bit ext true ▹ written_if (nat_lt i addeds) (small a i)

-- X.691 22: what an element of a SET OF is sorted by: its complete encoding from position 0
abbrev pub octet_key : Option Bits → List ℕ
octet_key None = []
octet_key (Some bs) = complete bs

-- X.691 22: writers in ascending order of their complete encodings
abbrev pub ascending : List Writer → List Writer
ascending ws = sorted (λ f g. before (octet_key (f 0)) (octet_key (g 0))) ws

-- whether a year lies from lb to ub
abbrev pub in_range : ℕ → ℕ → ℤ → Bool
in_range lb ub y = le_z (pos lb) y && le_z y (pos ub)

-- a year that isn't negative, as a count
abbrev pub year_of : ℤ → ℕ
year_of (pos n) = n
year_of (negsuc n) = 0

-- a year: the first of three ranges that holds it, or any number (this project's profile of X.691 32)
unfoldable pub year_writer : Variant → ℤ → Writer
unfolding constrained_whole number_under
year_writer a y =
    if in_range 2005 2020 y then constrained_whole a 4 0 ▹ constrained_whole a 16 (year_of y - 2005)
    else if in_range 2021 2276 y then constrained_whole a 4 1 ▹ constrained_whole a 256 (year_of y - 2021)
    else if in_range 1749 2004 y then constrained_whole a 4 2 ▹ constrained_whole a 256 (year_of y - 1749)
    else constrained_whole a 4 3 ▹ number_under a None None y

-- X.691 32: a day of the calendar: year, month and day
unfoldable pub date_of : Variant → ℤ → ℕ → ℕ → Writer
unfolding year_writer
date_of a y m d = written_if (is_date y m d) (year_writer a y ▹ constrained_whole a 12 (m - 1)
    ▹ constrained_whole a 31 (d - 1))

-- a writer of a whole number, for a value of this kind alone
abbrev pub on_whole : (ℤ → Writer) → Value → Writer
on_whole f (whole z) = f z
on_whole f _ = refused

-- a writer of a truth value, for a value of this kind alone
abbrev pub on_truth : (Bool → Writer) → Value → Writer
on_truth f (truth b) = f b
on_truth f _ = refused

-- a writer of NULL, for its value alone
abbrev pub on_nothing : Writer → Value → Writer
on_nothing f nothing = f
on_nothing f _ = refused

-- a writer of an item, for a value of this kind alone
abbrev pub on_item : (Side → ℕ → Writer) → Value → Writer
on_item f (item s i) = f s i
on_item f _ = refused

-- a writer of octets, for a value of this kind alone
abbrev pub on_octets : (List ℕ → Writer) → Value → Writer
on_octets f (octets os) = f os
on_octets f _ = refused

-- a writer of bits, for a value of this kind alone
abbrev pub on_bits : (Bits → Writer) → Value → Writer
on_bits f (bits bs) = f bs
on_bits f _ = refused

-- a writer of characters, for a value of this kind alone
abbrev pub on_characters : (List ℕ → Writer) → Value → Writer
on_characters f (characters cs) = f cs
on_characters f _ = refused

-- a writer of a list's elements, for a value of this kind alone
abbrev pub on_elements : (List Value → Writer) → Value → Writer
on_elements f (elements vs) = f (values vs)
on_elements f _ = refused

-- a writer of a bag's elements, for a value of this kind alone that is kept in its one order
abbrev pub on_bag : (List Value → Writer) → Value → Writer
on_bag f (bag vs) = written_if (same (bag_of (values vs)) (bag vs)) (f (values vs))
on_bag f _ = refused

-- a writer of a record's root parts and additions, for a value of this kind alone
abbrev pub on_fields : (List (Option Value) → List (Option Value) → Writer) → Value → Writer
on_fields f (fields r a) = f (slots r) (slots a)
on_fields f _ = refused

-- a writer of an alternative, for a value of this kind alone
abbrev pub on_alternative : (Side → ℕ → Value → Writer) → Value → Writer
on_alternative f (alternative s i v) = f s i v
on_alternative f _ = refused

-- a writer of a date, for a value of this kind alone
abbrev pub on_day : (ℤ → ℕ → ℕ → Writer) → Value → Writer
on_day f (day y m d) = f y m d
on_day f _ = refused

unfoldable mutual
  unfolding is_text is_time is_identifier number_form record_of choice_of item_of date_of char_writers char_code
      Schemas.smallest same bag_of

  -- X.691 12 to 24, 30, 32: the canonical bits of a value in normal form, by its schema; a value of another kind has
  -- none
  pub canon : Variant → Schema → Value → Writer
  canon a Schema.boolean = on_truth (λ b. just (b ∷ []))
  canon a Schema.null = on_nothing (just [])
  canon a Schema.real = λ v. refused
  canon a Schema.cut = λ v. refused
  canon a Schema.any = on_octets (unconstrained_octets a)
  canon a (Schema.text kind) = on_octets (λ os. written_if (is_text kind os) (unconstrained_octets a os))
  canon a Schema.identifier = on_octets (λ os. written_if (is_identifier os) (unconstrained_octets a os))
  canon a (Schema.time kind) =
      on_characters (λ cs. written_if (is_time kind cs)
      (counted a any_size false (char_items (char_width a visible)) (char_writers a visible cs)))
  canon a Schema.date = on_day (date_of a)
  canon a (Schema.number bounds mark range) = on_whole (λ z. written_if (holds range z) (number_form a bounds mark z))
  canon a (Schema.items r e ext) = on_item (item_of a r e ext)
  canon a (Schema.octet_string size mark) = on_octets (λ os. counted a size mark octet_items (octet_writers os))
  canon a (Schema.bit_string size mark named) = on_bits (λ bs. counted a size mark bit_items (bit_writers bs))
  canon a (Schema.char_string alphabet size mark) =
      on_characters (λ cs. counted a size mark (char_items (char_width a alphabet)) (char_writers a alphabet cs))
  canon a (Schema.containing e) = λ v. open_bits a (canon a e v 0)
  canon a (Schema.list e size mark) = on_elements (λ vs. counted a size mark list_items (map (canon a e) vs))
  canon a (Schema.set_of e size mark) = on_bag (λ vs. counted a size mark list_items (ascending (map (canon a e) vs)))
  canon a (Schema.sequence o ps ext adds) =
      on_fields (λ r x. record_of a ext (ordered o (tags ps) (members a ps)) (members a adds) (ordered o (tags ps) r) x)
  canon a (Schema.choice ps adds ext) = on_alternative (choice_of a ext (members a ps) (members a adds))

  -- how each part, addition or alternative is written
  pub members : Variant → Parts → List Member
  members a no_parts = []
  members a (part t p s ps) = record { presence = p; writes = canon a s } ∷ members a ps

-- the complete encoding of bits, where they are there
abbrev pub completed : Option Bits → Option (List ℕ)
completed None = None
completed (Some bs) = Some (complete bs)

-- X.691 11.1: the octets of a value in normal form, by its schema
unfoldable pub bytes : Variant → Schema → Value → Option (List ℕ)
unfolding canon
bytes a s v = completed (canon a s v 0)

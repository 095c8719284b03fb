-- All encodings that a basic decoder takes (ITU-T X.691, 12 to 24, 30 and 32). Where it takes more than X.691 allows a
-- sender, that is this project's choice: any padding, superfluous octets and large forms, and additions that it doesn't
-- know.
use Rattle.std.specs.Prelude.{ℕ, zero, suc, ◌+◌, ◌-◌, ◌*◌, ◌/◌, ◌<◌, ◌≡◌, ◌⊎◌, Bool, true, false, cond, ◌&&◌, nat_le}
use Rattle.std.specs.Prelude.{nat_lt, ◌==◌, List, [], ◌∷◌, ◌++◌, length, Option, Some, None, ℤ, pos}
use Rattle.rasn_types.specs.Alphabets.{char_width, char_code, visible}
use Rattle.rasn_types.specs.Bits.{Bits, width, unpack, unsigned, signed}
use Rattle.rasn_types.specs.Contents.{is_text, is_time, is_identifier, is_date}
use Rattle.rasn_types.specs.Values.{Value, whole, truth, nothing, characters, elements, bag_of, fields, alternative}
use Rattle.rasn_types.specs.Values.{day, Side, root, added, as_values, as_slots}
use Rattle.rasn_types.specs.Variants.{Variant, aligned, unaligned}
use Rattle.rasn_constraints.specs.Bounds.{allows, holds, fits_i128, above, Bounds, Size, any_size, unbounded}
use Rattle.rasn_schema.specs.Orders.{ordered}
use Rattle.rasn_schema.specs.Schemas
use Rattle.rasn_schema.specs.Schemas.{tags, Presence, required, optional, group, default, Schema, Parts, no_parts, part}
use Rattle.per_core.specs.Counts.{by_range, ItemKind, list_items, octet_items, bit_items, char_items, is_aligned}
use Rattle.per_core.specs.Spellings.{Settings, ZeroIf, Spelling, exactly, Then, Either, When, never, AnyPadding}
use Rattle.per_core.specs.Spellings.{BitField}

-- items one after the other
abbrev pub OneByOne : {X : Type 0} → (X → Spelling) → List X → Spelling
OneByOne item [] = exactly []
OneByOne item (x ∷ xs) = Then (item x) (OneByOne item xs)

-- X.691 11.5.7.4: the o-th of n numbers in counted octets; the count is any code of its field (this project's choice)
pub record InOctets (a : Settings) (n o p : ℕ) (bits : Bits) : Type 0 where
  pub more : ℕ
  pub spelled : Then (BitField (width ((width n + 7) / 8)) more)
      (Then (AnyPadding a) (BitField (8 * suc more) o)) p bits

-- X.691 11.5.6, 11.5.7: the o-th of n numbers, by the variant
abbrev pub constrained_by : Variant → Settings → ℕ → ℕ → Spelling
constrained_by unaligned a n o = BitField (width n) o
constrained_by aligned a n o = by_range n (BitField (width n) o) (Then (AnyPadding a) (BitField 8 o))
    (Then (AnyPadding a) (BitField 16 o)) (InOctets a n o)

-- X.691 11.5.6, 11.5.7: the o-th of n numbers, by the settings
abbrev pub constrained_form : Settings → ℕ → ℕ → Spelling
constrained_form a n o = constrained_by a.variant a n o

-- X.691 11.5: a constrained whole number; a code past the last number has no meaning
pub record IsConstrainedWhole (a : Settings) (n o p : ℕ) (bits : Bits) : Type 0 where
  pub below : o < n
  pub spelled : constrained_form a n o p bits

-- X.691 11.9.3.6, 11.9.3.7: a count below 16384, in one octet or two; two may also be below 128 (this project's
-- choice)
abbrev pub LastCount : ℕ → Spelling
LastCount n = Either (When (n < 128) (BitField 8 n)) (Then (exactly (true ∷ false ∷ [])) (BitField 14 n))

-- X.691 11.9.3.8: a count of 16384, 32768, 49152 or 65536
pub record Fragment (n p : ℕ) (bits : Bits) : Type 0 where
  pub times : ℕ
  pub some : 0 < times
  pub few : times < 5
  pub is : n ≡ 16384 * times
  pub spelled : BitField 8 (192 + times) p bits

-- X.691 11.9.3.8: one fragment of items, and the rest
pub record Fragmented {X : Type 0} (a : Settings) (item : X → Spelling) (rest : List X → Spelling) (xs : List X)
    (p : ℕ) (bits : Bits) : Type 0 where
  pub these : List X
  pub others : List X
  pub all : xs ≡ these ++ others
  pub spelled : Then (AnyPadding a) (Then (Fragment (length these)) (Then (OneByOne item these) (rest others))) p bits

-- items in k fragments, of any of the four counts (this project's choice), and a last one
abbrev pub InFragments : {X : Type 0} → Settings → (X → Spelling) → ℕ → List X → Spelling
InFragments a item zero xs = Then (AnyPadding a) (Then (LastCount (length xs)) (OneByOne item xs))
InFragments a item (suc k) xs = Fragmented a item (InFragments a item k) xs

-- X.691 11.9.3.5 to 11.9.3.8: items after an unconstrained length
pub record UnconstrainedLength {X : Type 0} (a : Settings) (item : X → Spelling) (xs : List X) (p : ℕ)
    (bits : Bits) : Type 0 where
  pub fragments : ℕ
  pub spelled : InFragments a item fragments xs p bits

-- padding, where a test passes
abbrev pub PaddingIf : Bool → Settings → Spelling
PaddingIf true a = AnyPadding a
PaddingIf false a = exactly []

-- X.691 11.9.3.3, 11.9.4.1: items whose count is a constrained whole number where both bounds are there and the upper
-- one is below 65536, and else unconstrained
abbrev pub length_form : {X : Type 0} → Settings → Option ℕ → Option ℕ → ItemKind → (X → Spelling) → List X → Spelling
length_form a None most kind item xs = UnconstrainedLength a item xs
length_form a (Some lb) None kind item xs = UnconstrainedLength a item xs
length_form a (Some lb) (Some ub) kind item xs = cond (nat_lt ub 65536)
    (Then (IsConstrainedWhole a (ub - lb + 1) (length xs - lb))
    (Then (PaddingIf (nat_lt 0 (length xs) && is_aligned kind lb ub) a) (OneByOne item xs)))
    (UnconstrainedLength a item xs)

-- items whose count the size allows
pub record Sized {X : Type 0} (a : Settings) (size : Size) (kind : ItemKind) (item : X → Spelling) (xs : List X) (p : ℕ)
    (bits : Bits) : Type 0 where
  pub allowed : allows size (length xs) ≡ true
  pub spelled : length_form a size.least size.most kind item xs p bits

-- an extensible constraint's bit: 0 and the form under the constraint, or 1 and the form without, also where the
-- constraint is met (this project's choice)
abbrev pub Marked : {X : Type 0} → Bool → (X → Spelling) → (X → Spelling) → X → Spelling
Marked false inside outside x = inside x
Marked true inside outside x = Either (Then (exactly (false ∷ [])) (inside x)) (Then (exactly (true ∷ [])) (outside x))

-- X.691 16, 17, 20, 30.5: items under a size constraint
abbrev pub Counted : {X : Type 0} → Settings → Size → Bool → ItemKind → (X → Spelling) → List X → Spelling
Counted a size mark kind item = Marked mark (Sized a size kind item) (Sized a any_size kind item)

-- an octet, as eight bits
abbrev pub octet : ℕ → Spelling
octet o = BitField 8 o

-- a bit, as itself
abbrev pub bit : Bool → Spelling
bit b = exactly (b ∷ [])

-- X.691 11.9.3.5: octets after an unconstrained length
abbrev pub Octets : Settings → List ℕ → Spelling
Octets a = Sized a any_size octet_items octet

-- X.691 11.7: a number without sign in one octet or more; superfluous ones may lead (this project's choice)
pub record IsSemiConstrainedWhole (a : Settings) (n p : ℕ) (bits : Bits) : Type 0 where
  pub octets : List ℕ
  pub some : 0 < length octets
  pub means : unsigned octets ≡ n
  pub spelled : Octets a octets p bits

-- X.691 11.8: a number in two's complement in one octet or more; superfluous ones may lead (this project's choice)
pub record IsUnconstrainedWhole (a : Settings) (z : ℤ) (p : ℕ) (bits : Bits) : Type 0 where
  pub octets : List ℕ
  pub some : 0 < length octets
  pub means : signed octets ≡ z
  pub spelled : Octets a octets p bits

-- X.691 11.5, 11.7, 11.8: a number as its bounds say; under bounds it fits i128 (this project's choice)
abbrev pub number_spelling : Settings → Option ℤ → Option ℤ → ℤ → Spelling
number_spelling a None None z = IsUnconstrainedWhole a z
number_spelling a None (Some u) z = When (fits_i128 z ≡ true) (IsUnconstrainedWhole a z)
number_spelling a (Some l) None z = When (fits_i128 z ≡ true) (IsSemiConstrainedWhole a (above l z))
number_spelling a (Some l) (Some u) z = When (fits_i128 z ≡ true) (IsConstrainedWhole a (above l u + 1) (above l z))

-- X.691 13.2: a number within bounds
pub record IsNumber (a : Settings) (bounds : Bounds) (z : ℤ) (p : ℕ) (bits : Bits) : Type 0 where
  pub within : holds bounds z ≡ true
  pub spelled : number_spelling a bounds.low bounds.high z p bits

-- a lower bound of 0 alone
abbrev pub at_least_zero : Bounds
at_least_zero = record { low = Some (pos 0); high = None }

-- X.691 11.6: a normally small number; the large form may stand for every number (this project's choice)
abbrev pub Small : Settings → ℕ → Spelling
Small a i = Either (Then (exactly (false ∷ [])) (BitField 6 i))
    (Then (exactly (true ∷ [])) (IsNumber a at_least_zero (pos i)))

-- octets that begin with a spelling of some bits, followed by fewer than eight spare ones
pub record Fronts (a : Settings) (s : Spelling) (os : List ℕ) : Type 0 where
  pub front : Bits
  pub spare : Bits
  pub spelled : s 0 front
  pub all : unpack os ≡ front ++ spare
  pub some : 0 < length front
  pub short : length spare < 8
  pub zeros : ZeroIf a.strict spare

-- X.691 11.1: octets that are a complete encoding of what has the spelling; of no bits that is one zero octet
abbrev pub Fills : Settings → Spelling → List ℕ → Type 0
Fills a s os = Fronts a s os ⊎ (s 0 [] × (os ≡ 0 ∷ []))

-- X.691 11.2: an open type whose octets are as they have to be
pub record Open (a : Settings) (contents : List ℕ → Type 0) (p : ℕ) (bits : Bits) : Type 0 where
  pub octets : List ℕ
  pub are : contents octets
  pub spelled : Octets a octets p bits

-- a part, addition or alternative, and how its value is spelled
pub record Rule : Type 1 where
  pub presence : Presence
  pub spells : Value → Spelling

-- X.691 19.2: a part's presence bit; a required part has none and is present
abbrev pub FlagOf : Presence → Bool → Spelling
FlagOf required b = When (b ≡ true) (exactly [])
FlagOf _ b = exactly (b ∷ [])

-- the presence bits of all parts
abbrev pub Flags : List Rule → List Bool → Spelling
Flags [] [] = exactly []
Flags (r ∷ rs) (b ∷ bs) = Then (FlagOf r.presence b) (Flags rs bs)
Flags _ _ = never

-- X.691 19.5: what isn't present is absent, or exactly its default; what is required is never left out
abbrev pub IsLeftOut : Presence → Option Value → Type 0
IsLeftOut required s = ⊥
IsLeftOut optional s = s ≡ None
IsLeftOut group s = s ≡ None
IsLeftOut (default d) s = s ≡ Some d

-- a part that is there, and its value's spelling
pub record Holds (s : Option Value) (spells : Value → Spelling) (p : ℕ) (bits : Bits) : Type 0 where
  pub held : Value
  pub is : s ≡ Some held
  pub spelled : spells held p bits

-- a part that its presence bit shows, or leaves out
abbrev pub Body : Rule → Bool → Option Value → Spelling
Body r true s = Holds s r.spells
Body r false s = When (IsLeftOut r.presence s) (exactly [])

-- all parts, as their presence bits say
abbrev pub Bodies : List Rule → List Bool → List (Option Value) → Spelling
Bodies [] [] [] = exactly []
Bodies (r ∷ rs) (b ∷ bs) (s ∷ ss) = Then (Body r b s) (Bodies rs bs ss)
Bodies _ _ _ = never

-- X.691 19.2 to 19.6: the presence bits of the root parts, and these parts
pub record Root (rs : List Rule) (ss : List (Option Value)) (p : ℕ) (bits : Bits) : Type 0 where
  pub shown : List Bool
  pub spelled : Then (Flags rs shown) (Bodies rs shown ss) p bits

-- X.691 19.9: additions past those of the schema, each an open type of any octets, where `u` lets them be present
abbrev pub Unknown_in : Settings → Bool → List Bool → Spelling
Unknown_in a u [] = exactly []
Unknown_in a u (false ∷ bs) = Unknown_in a u bs
Unknown_in a true (true ∷ bs) = Then (Open a (λ os. Unit {0})) (Unknown_in a true bs)
Unknown_in a false (true ∷ bs) = never

-- a value in an open type
abbrev pub OpenOf : Settings → (Value → Spelling) → Value → Spelling
OpenOf a spells v = Open a (Fills a (spells v))

-- X.691 19.7 to 19.9: additions as a bitmap shows them: of the schema those with a bit 1, and after them those that it
-- doesn't know. A bitmap may be shorter or longer than the schema's list
abbrev pub Additions_in : Settings → Bool → List Rule → List (Option Value) → List Bool → Spelling
Additions_in a u [] [] bs = Unknown_in a u bs
Additions_in a u [] (s ∷ ss) bs = never
Additions_in a u (r ∷ rs) [] bs = never
Additions_in a u (r ∷ rs) (s ∷ ss) [] = When (IsLeftOut r.presence s) (Additions_in a u rs ss [])
Additions_in a u (r ∷ rs) (s ∷ ss) (false ∷ bs) = When (IsLeftOut r.presence s) (Additions_in a u rs ss bs)
Additions_in a u (r ∷ rs) (s ∷ ss) (true ∷ bs) = Then (Holds s (OpenOf a r.spells)) (Additions_in a u rs ss bs)

-- X.691 19.9: additions past those of the schema, which may be present
abbrev pub Unknown : Settings → List Bool → Spelling
Unknown a = Unknown_in a true

-- X.691 19.7 to 19.9: additions as a bitmap shows them, where unknown ones may be present
abbrev pub Additions : Settings → List Rule → List (Option Value) → List Bool → Spelling
Additions a = Additions_in a true

-- X.691 19.7, 19.8, 11.9.3.4: a bitmap of one bit or more, after its length in the small form (up to 64) or the large
-- one
pub record IsBitmap (a : Settings) (flags : List Bool) (p : ℕ) (bits : Bits) : Type 0 where
  pub some : 0 < length flags
  pub spelled : Either (Then (exactly (false ∷ [])) (Then (BitField 6 (length flags - 1)) (exactly flags)))
      (Then (exactly (true ∷ [])) (Sized a any_size bit_items bit flags)) p bits

-- X.691 19: extension bit 1, the root parts, a bitmap, and the additions that it shows
pub record Extended_in (a : Settings) (u : Bool) (rs adds : List Rule) (ss xs : List (Option Value)) (p : ℕ)
    (bits : Bits) : Type 0 where
  pub flags : List Bool
  pub spelled : Then (exactly (true ∷ [])) (Then (Root rs ss)
      (Then (IsBitmap a flags) (Additions_in a u adds xs flags))) p bits

-- X.691 19, 21: the parts of a SEQUENCE or SET, in the order in which they are written, and its additions
abbrev pub Record_in : Settings → Bool → Bool → List Rule → List Rule → List (Option Value) → List (Option Value)
    → Spelling
Record_in a u false rs adds ss xs = Then (Root rs ss) (Additions_in a u adds xs [])
Record_in a u true rs adds ss xs =
    Either (Then (exactly (false ∷ [])) (Then (Root rs ss) (Additions_in a u adds xs [])))
    (Extended_in a u rs adds ss xs)

-- X.691 19: a record with extension bit 1, where unknown additions may be present
abbrev pub Extended : Settings → List Rule → List Rule → List (Option Value) → List (Option Value) → Spelling
Extended a = Extended_in a true

-- X.691 19, 21: a SEQUENCE or SET, where unknown additions may be present
abbrev pub Record : Settings → Bool → List Rule → List Rule → List (Option Value) → List (Option Value) → Spelling
Record a = Record_in a true

-- the value of the alternative at a place
abbrev pub Chosen : List Rule → ℕ → Value → Spelling
Chosen [] i v = never
Chosen (r ∷ rs) zero v = r.spells v
Chosen (r ∷ rs) (suc i) v = Chosen rs i v

-- X.691 14.3, 19.1, 23.5: the extension bit of a type with an extension marker
abbrev pub ExtensionBit : Bool → Bool → Spelling
ExtensionBit true b = exactly (b ∷ [])
ExtensionBit false false = exactly []
ExtensionBit false true = never

-- X.691 23: an alternative of the root in place, or an addition in an open type; only those of the schema
abbrev pub Choice : Settings → Bool → List Rule → List Rule → Side → ℕ → Value → Spelling
Choice a ext rs adds root i v = Then (ExtensionBit ext false)
    (Then (IsConstrainedWhole a (length rs) i) (Chosen rs i v))
Choice a ext rs adds added i v = Then (ExtensionBit ext true)
    (Then (Small a i) (Open a (Fills a (Chosen adds i v))))

-- X.691 14.3: an item after the extension marker; only those of the schema
pub record AddedItem (a : Settings) (addeds i p : ℕ) (bits : Bits) : Type 0 where
  pub known : i < addeds
  pub spelled : Small a i p bits

-- X.691 14: an item of an ENUMERATED
abbrev pub Item : Settings → ℕ → ℕ → Bool → Side → ℕ → Spelling
Item a roots addeds ext root i = Then (ExtensionBit ext false) (IsConstrainedWhole a roots i)
Item a roots addeds ext added i = Then (ExtensionBit ext true) (AddedItem a addeds i)

-- X.691 30.5.4: a permitted character, by its code
pub record Char (a : Settings) (alphabet : List ℕ) (c p : ℕ) (bits : Bits) : Type 0 where
  pub index : ℕ
  pub is : char_code a.variant alphabet c ≡ Some index
  pub spelled : BitField (char_width a.variant alphabet) index p bits

-- X.691 30.5: a known-multiplier string
abbrev pub String : Settings → List ℕ → Size → Bool → List ℕ → Spelling
String a alphabet size mark = Counted a size mark (char_items (char_width a.variant alphabet)) (Char a alphabet)

-- a year of a range of n years from low on
pub record YearIn (a : Settings) (low n : ℕ) (y : ℤ) (p : ℕ) (bits : Bits) : Type 0 where
  pub past : ℕ
  pub is : y ≡ pos (low + past)
  pub spelled : IsConstrainedWhole a n past p bits

-- a year: one of three ranges, or any number (this project's profile of X.691 32)
abbrev pub year_form : Settings → ℕ → ℤ → Spelling
year_form a zero = YearIn a 2005 16
year_form a (suc zero) = YearIn a 2021 256
year_form a (suc (suc zero)) = YearIn a 1749 256
year_form a (suc (suc (suc zero))) = IsUnconstrainedWhole a
year_form a (suc (suc (suc (suc n)))) = λ y. never

-- a year; any may stand as number
pub record Year (a : Settings) (y : ℤ) (p : ℕ) (bits : Bits) : Type 0 where
  pub range : ℕ
  pub spelled : Then (BitField 2 range) (year_form a range y) p bits

-- X.691 32: a day of the calendar; month and day are counted from 0
pub record IsDay (a : Settings) (x : ℤ × ℕ × ℕ) (p : ℕ) (bits : Bits) : Type 0 where
  pub is_day : is_date x.0 (suc x.1) (suc x.2) ≡ true
  pub spelled : Then (Year a x.0) (Then (IsConstrainedWhole a 12 x.1) (IsConstrainedWhole a 31 x.2)) p bits

-- X.691 13: a number of the type's range under a value constraint
pub record IsNumberOf (a : Settings) (bounds : Bounds) (mark : Bool) (range : Bounds) (z : ℤ) (p : ℕ)
    (bits : Bits) : Type 0 where
  pub in_range : holds range z ≡ true
  pub spelled : Marked mark (IsNumber a bounds) (IsNumber a unbounded) z p bits

-- a value that is made of what is spelled
pub record As {X : Type 0} (make : X → Value) (spells : X → Spelling) (v : Value) (p : ℕ) (bits : Bits) : Type 0 where
  pub of : X
  pub is : v ≡ make of
  pub spelled : spells of p bits

-- what passes a test, and its spelling
abbrev pub Proper : {X : Type 0} → (X → Bool) → (X → Spelling) → X → Spelling
Proper ok spells x = When (ok x ≡ true) (spells x)

unfoldable mutual
  unfolding is_text is_time is_identifier Schemas.smallest

  -- X.691 12 to 24, 30, 32: the bits that spell a value, by its schema; `u` says whether unknown additions may be
  -- present
  pub basic_in : Settings → Bool → Schema → Value → Spelling
  basic_in a u Schema.boolean = As truth bit
  basic_in a u Schema.null = As (λ (u : Unit {0}). nothing) (λ u. exactly [])
  basic_in a u Schema.real = λ v. never
  basic_in a u Schema.cut = λ v. never
  basic_in a u Schema.any = As Value.octets (Octets a)
  basic_in a u (Schema.text kind) = As Value.octets (Proper (is_text kind) (Octets a))
  basic_in a u Schema.identifier = As Value.octets (Proper is_identifier (Octets a))
  basic_in a u (Schema.time kind) = As characters (Proper (is_time kind) (String a visible any_size false))
  basic_in a u Schema.date = As (λ (x : ℤ × ℕ × ℕ). day x.0 (suc x.1) (suc x.2)) (IsDay a)
  basic_in a u (Schema.number bounds mark range) = As whole (IsNumberOf a bounds mark range)
  basic_in a u (Schema.items r e ext) = As (λ (x : Side × ℕ). Value.item x.0 x.1) (λ x. Item a r e ext x.0 x.1)
  basic_in a u (Schema.octet_string size mark) = As Value.octets (Counted a size mark octet_items octet)
  basic_in a u (Schema.bit_string size mark named) = As Value.bits (Counted a size mark bit_items bit)
  basic_in a u (Schema.char_string alphabet size mark) = As characters (String a alphabet size mark)
  basic_in a u (Schema.containing e) = OpenOf a (basic_in a u e)
  basic_in a u (Schema.list e size mark) = As (λ vs. elements (as_values vs))
      (Counted a size mark list_items (basic_in a u e))
  basic_in a u (Schema.set_of e size mark) = As bag_of (Counted a size mark list_items (basic_in a u e))
  basic_in a u (Schema.sequence o ps ext adds) =
      As (λ (x : List (Option Value) × List (Option Value)). fields (as_slots x.0) (as_slots x.1))
      (λ x. Record_in a u ext (ordered o (tags ps) (rules_in a u ps)) (rules_in a u adds) (ordered o (tags ps) x.0) x.1)
  basic_in a u (Schema.choice ps adds ext) =
      As (λ (x : Side × ℕ × Value). alternative x.0 x.1 x.2)
      (λ x. Choice a ext (rules_in a u ps) (rules_in a u adds) x.0 x.1 x.2)

  -- how each part, addition or alternative is spelled
  pub rules_in : Settings → Bool → Parts → List Rule
  rules_in a u no_parts = []
  rules_in a u (part t p s ps) = record { presence = p; spells = basic_in a u s } ∷ rules_in a u ps

-- X.691 12 to 24, 30, 32: the bits that spell a value, by its schema; unknown additions may be present
abbrev pub basic : Settings → Schema → Value → Spelling
basic a s = basic_in a true s

-- how each part, addition or alternative is spelled; unknown additions may be present
abbrev pub rules : Settings → Parts → List Rule
rules a ps = rules_in a true ps

-- X.691 11.1: octets that are a complete encoding of a value
abbrev pub fills : Settings → Schema → Value → List ℕ → Type 0
fills a s v os = Fills a (basic a s v) os

-- octets that begin with a complete encoding of a value, and the octets that follow it
abbrev pub front : Settings → Schema → Value → List ℕ → List ℕ → Type 0
front a s v os rest = (these : List ℕ) × (os ≡ these ++ rest) × fills a s v these

-- a complete encoding in which no unknown additions are present, at any depth
abbrev pub fills_known : Settings → Schema → Value → List ℕ → Type 0
fills_known a s v os = Fills a (basic_in a false s v) os

-- what is read of a type: a complete encoding within 128 levels (this project's choice)
abbrev pub read : Settings → (ℕ → Schema) → Value → List ℕ → Type 0
read a T v os = fills a (T 128) v os

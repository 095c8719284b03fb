-- The fault that a refused writing names, where it is in a value.
use Rattle.std.specs.Prelude.{ℕ, ◌≡◌, ◌<◌, Bool, true, false, ◌||◌, List, ◌∷◌, length, get_or, Option, Some, None}
use Rattle.std.specs.Prelude.{is_some, MatchOption, ℤ}
use Rattle.rasn_types.specs.Alphabets.{index_of, visible}
use Rattle.rasn_types.specs.Contents.{is_identifier, is_time}
use Rattle.rasn_types.specs.Values.{Value, whole, octets, bits, characters, elements, bag, bag_of, values, alternative}
use Rattle.rasn_types.specs.Values.{Side}
use Rattle.rasn_constraints.specs.Bounds.{allows, holds, fits_i128, Bounds, Size, value_of, lower_of, upper_of}
use Rattle.rasn_schema.specs.Structures.{no_value, alternative_in, choice_schema, list_value, record_value, extended}
use Rattle.rasn_schema.specs.Structures.{is_of_kind}
use Rattle.rasn_schema.specs.Orders.{canonised, canonised_slots}
use Rattle.rasn_schema.specs.Schemas.{by_tag, Schema, Parts, part, Presence, TagTree}
use Rattle.per_core.specs.Canon.{shown}
use Rattle.per_core.specs.declared.encode_error.EncodeErrorKind.{EncodeErrorKind}
use Rattle.per_core.specs.declared.encode_error.EncodeErrorKind.TheVariants.{SizeConstraintNotSatisfied}
use Rattle.per_core.specs.declared.encode_error.EncodeErrorKind.TheVariants.{ValueConstraintNotSatisfied}
use Rattle.per_core.specs.declared.encode_error.EncodeErrorKind.TheVariants.{AlphabetConstraintNotSatisfied}
use Rattle.per_core.specs.declared.encode_error.EncodeErrorKind.TheVariants.{IntegerTypeConversionFailed}
use Rattle.per_core.specs.declared.encode_error.EncodeErrorKind.TheVariants.{VariantNotInChoice, RealNotSupported}
use Rattle.per_core.specs.declared.encode_error.EncodeErrorKind.TheVariants.{TooManyAdditions, Below, AlreadyFailed}
use Rattle.per_core.specs.declared.encode_error.EncodeErrorKind.TheVariants.{OutOfMemory, OutOfTurn, WrongKind}

-- a number is out of bounds, with the numbers that an error of this tells
pub record Outside (bounds : Bounds) (z : ℤ) (value lower upper : Option ℤ) : Type 0 where
  pub out_of_bounds : holds bounds z ≡ false
  pub value_is : MatchOption value (fits_i128 z ≡ false) (λ n. n ≡ z)
  pub lower_is : lower ≡ bounds.low
  pub upper_is : upper ≡ bounds.high

-- a count is outside a size, with the numbers that an error of this tells
pub record OutsideSize (size : Size) (n : ℕ) (count : ℕ) (lower upper : Option ℕ) : Type 0 where
  pub out_of_size : allows size n ≡ false
  pub count_is : count ≡ n
  pub lower_is : lower ≡ size.least
  pub upper_is : upper ≡ size.most

-- whether a bound is there
abbrev pub has_bound : Bounds → Bool
has_bound b = is_some b.low || is_some b.high

-- a number is within bounds, of which one is there, but past an i128 (this project's choice)
pub record IsPast (bounds : Bounds) (z : ℤ) : Type 0 where
  pub in_bounds : holds bounds z ≡ true
  pub bound : has_bound bounds ≡ true
  pub past : fits_i128 z ≡ false

-- X.691 13: an INTEGER whose constraint isn't extensible is out of its bounds
abbrev pub IsOutOfBounds : Option ℤ → Option ℤ → Option ℤ → Schema → Value → Type 0
IsOutOfBounds value lower upper (Schema.number bounds false range) (whole z) = Outside bounds z value lower upper
IsOutOfBounds value lower upper _ _ = ⊥

-- X.691 13: an INTEGER is within its bounds but past an i128
abbrev pub IsPastBounds : Schema → Value → Type 0
IsPastBounds (Schema.number bounds mark range) (whole z) = IsPast bounds z
IsPastBounds _ _ = ⊥

-- X.691 16, 17, 20, 22, 30: the count of a string's items, of a list's elements or of a bag's members is outside a size
-- that isn't extensible
abbrev pub IsOutOfSize : ℕ → Option ℕ → Option ℕ → Schema → Value → Type 0
IsOutOfSize count lower upper (Schema.octet_string size false) (octets os) =
    OutsideSize size (length os) count lower upper
IsOutOfSize count lower upper (Schema.bit_string size false named) (bits bs) =
    OutsideSize size (length bs) count lower upper
IsOutOfSize count lower upper (Schema.char_string alphabet size false)
    (characters cs) = OutsideSize size (length cs) count lower upper
IsOutOfSize count lower upper (Schema.list e size false) (elements vs) =
    OutsideSize size (length (values vs)) count lower upper
IsOutOfSize count lower upper (Schema.set_of e size false) (bag vs) =
    OutsideSize size (length (values vs)) count lower upper
IsOutOfSize count lower upper _ _ = ⊥

-- some characters have one outside an alphabet, at an index
pub record HasForeign (alphabet : List ℕ) (cs : List ℕ) : Type 0 where
  pub index : ℕ
  pub within : index < length cs
  pub foreign : index_of (get_or cs index 0) alphabet ≡ None

-- X.691 30.5: a character isn't permitted, where the size allows the count or is extensible
abbrev pub IsForeign : Schema → Value → Type 0
IsForeign (Schema.char_string alphabet size mark) (characters cs) = ((mark || allows size (length cs)) ≡ true)
    × HasForeign alphabet cs
IsForeign (Schema.time kind) (characters cs) = HasForeign visible cs
IsForeign _ _ = ⊥

-- X.680 32, 46, 47: octets aren't the contents of an OBJECT IDENTIFIER, or characters aren't the text of a time
abbrev pub IsUnlawful : Schema → Value → Type 0
IsUnlawful Schema.identifier (octets os) = is_identifier os ≡ false
IsUnlawful (Schema.time kind) (characters cs) = is_time kind cs ≡ false
IsUnlawful _ _ = ⊥

-- X.691 15: REAL isn't supported
abbrev pub IsReal : Schema → Value → Type 0
IsReal Schema.real v = Unit {0}
IsReal _ _ = ⊥

-- X.680 25.6: a value is absent where one is asked for, as an element of a list
abbrev pub IsAbsent : Schema → Value → Type 0
IsAbsent s v = v ≡ no_value

-- a value isn't of its schema's kind
abbrev pub IsOther : Schema → Value → Type 0
IsOther s v = is_of_kind s v ≡ false

-- X.691 19.2, 19.8: a component that is written, by its schema
pub data HasPart (s : Schema) (v : Value) : Parts → List (Option Value) → Type 0 where
  part_here : {t : TagTree} {p : Presence} {ps : Parts} {rs : List (Option Value)} → shown p (Some v) ≡ Some true
      → HasPart s v (part t p s ps) (Some v ∷ rs)
  part_after : {t : TagTree} {p : Presence} {c : Schema} {r : Option Value} {ps : Parts} {rs : List (Option Value)}
      → HasPart s v ps rs → HasPart s v (part t p c ps) (r ∷ rs)

-- an element of a list, or a member of a bag
pub data HasElement (v : Value) : List Value → Type 0 where
  element_here : {vs : List Value} → HasElement v (v ∷ vs)
  element_after : {w : Value} {vs : List Value} → HasElement v vs → HasElement v (w ∷ vs)

-- a fault is in a value: at once, in a component, an addition, an element or a member of it, in its alternative, or
-- in the value that octets contain
pub data StandsIn (fault : Schema → Value → Type 0) : Schema → Value → Type 0 where
  at_once : {s : Schema} {v : Value} → fault s v → StandsIn fault s v
  in_part : {s : Schema} {v : Value} {ps qs : Parts} {marker : Bool} {rs : List (Option Value)}
      (xs : List (Option Value)) → HasPart s v ps rs → StandsIn fault s v
      → StandsIn fault (extended ps marker qs) (record_value rs xs)
  in_addition : {s : Schema} {v : Value} {ps qs : Parts} {marker : Bool} {xs : List (Option Value)}
      (rs : List (Option Value)) → HasPart s v qs xs → StandsIn fault s v
      → StandsIn fault (extended ps marker qs) (record_value rs xs)
  -- X.691 21.1: in the SEQUENCE of a SET's components in ascending order of their smallest tags
  in_set : {ps qs : Parts} {marker : Bool} (rs xs : List (Option Value))
      → StandsIn fault (extended (canonised ps) marker qs) (record_value (canonised_slots ps rs) xs)
      → StandsIn fault (Schema.sequence by_tag ps marker qs) (record_value rs xs)
  in_element : {e : Schema} {size : Size} {mark : Bool} {v : Value} {vs : List Value} → HasElement v vs
      → StandsIn fault e v → StandsIn fault (Schema.list e size mark) (list_value vs)
  in_member : {e : Schema} {size : Size} {mark : Bool} {v : Value} {vs : List Value} → HasElement v vs
      → StandsIn fault e v → StandsIn fault (Schema.set_of e size mark) (bag_of vs)
  in_contents : {e : Schema} {v : Value} → StandsIn fault e v → StandsIn fault (Schema.containing e) v
  in_alternative : {s : Schema} {v : Value} {ps qs : Parts} {marker : Bool} {d : Side} {k : ℕ}
      → alternative_in (choice_schema ps marker qs) d k ≡ Some s → StandsIn fault s v
      → StandsIn fault (choice_schema ps marker qs) (alternative d k v)

-- Where a kind's fault is in a value. No list of additions is longer than its schema's, and no choice that a lawful
-- type writes has a tag of none of its alternatives; want of memory and an earlier refusal are none of a value.
abbrev pub IsInValue : EncodeErrorKind → Schema → Value → Type 0
IsInValue (SizeConstraintNotSatisfied told) s v = StandsIn (IsOutOfSize told.size told.lower told.upper) s v
IsInValue (ValueConstraintNotSatisfied told) s v =
    StandsIn (IsOutOfBounds (value_of told) (lower_of told) (upper_of told)) s v
IsInValue AlphabetConstraintNotSatisfied s v = StandsIn IsForeign s v
IsInValue IntegerTypeConversionFailed s v = StandsIn IsPastBounds s v
IsInValue VariantNotInChoice s v = ⊥
IsInValue RealNotSupported s v = StandsIn IsReal s v
IsInValue TooManyAdditions s v = ⊥
IsInValue Below s v = StandsIn IsUnlawful s v
IsInValue AlreadyFailed s v = ⊥
IsInValue OutOfMemory s v = ⊥
IsInValue OutOfTurn s v = StandsIn IsAbsent s v
IsInValue WrongKind s v = StandsIn IsOther s v

-- Which JSON value shows a value of a schema (ITU-T X.697). Lists of names are any: a schema has none.
use Rattle.std.specs.Prelude.{ℕ, ℤ, ◌≡◌, ◌≢◌, Bool, true, false, List, [], ◌∷◌, length, slice_get, Option, Some}
use Rattle.std.specs.Prelude.{None, nat_eq, if◌then◌else◌}
use Rattle.std.specs.Prelude.{codes, decimal, encode_utf8_all}
use Rattle.std.specs.Char.{OutOfScalarRange}
use Rattle.rasn_types.specs.Packed.{packed}
use Rattle.rasn_types.specs.Contents.{TextKind, TimeKind, is_time}
use Rattle.rasn_types.specs.Values.{Value, truth, nothing, whole, octets, bits, characters, alternative}
use Rattle.rasn_types.specs.Values.{bag_of, day, Side}
use Rattle.rasn_types.specs.Identifiers.{contents}
use Rattle.rasn_constraints.specs.Bounds.{Bounds, Size, fits_i128}
use Rattle.rasn_schema.specs.Structures.{no_value, alternative_in, choice_schema, list_value, record_value}
use Rattle.rasn_schema.specs.Orders.{canonised, canonised_slots}
use Rattle.rasn_schema.specs.Lawful.{is_group_schema}
use Rattle.rasn_schema.specs.Schemas.{Schema, Parts, no_parts, part, Presence, Order, by_tag, listed, TagTree}
use Rattle.rasn_traits.specs.Additions.{addition_bit}
use Rattle.rasn_traits.specs.Presences.{presence_bit}
use Rattle.json.specs.Json.{Json, null, boolean, number, string, array, object, Items, no_items, item}
use Rattle.json.specs.Json.{Members, no_members, member}
use Rattle.json.specs.Print.{IsNumber}
use Rattle.json.specs.Tree.{HasNumbers}
use Rattle.hex.specs.Hex.{encode_upper}
use Rattle.std.specs.Fmt.{signed_decimal}
use Rattle.rasn_jer.specs.Names.{item_by, number_of_item}
use Rattle.rasn_jer.specs.Strings.{day_text, dotted}
use Rattle.rasn_jer.specs.Texts.{join, text_of}

-- the text of a whole number is a number of JSON, and its decimal digits where an i128 holds it
pub record IsWhole (z : ℤ) (s : List ℕ) : Type 0 where
  pub is_number : IsNumber s
  pub digits : fits_i128 z ≡ true → s ≡ signed_decimal z

-- the one number that is the lower and the upper bound, where there is one
abbrev pub only_count : Option ℕ → Option ℕ → Option ℕ
only_count (Some least) (Some most) = if nat_eq least most then Some least else None
only_count _ _ = None

-- X.680 51.5: how many items there are, where a size without an extension marker is one number
abbrev pub fixed_count : Size → Bool → Option ℕ
fixed_count size mark = if mark then None else only_count size.least size.most

-- X.697: bits are the hexadecimal digits of their octets alone, where there are as many as the size fixes, and else an
-- object that also tells how many there are
pub data IsBits (fixed : Option ℕ) (bs : List Bool) : Json → Type 0 where
  fixed_bits : fixed ≡ Some (length bs) → IsBits fixed bs (string (encode_upper (packed bs)))
  counted_bits : fixed ≢ Some (length bs) → IsNumber (decimal (length bs))
      → IsBits fixed bs (object (member (codes "value") (string (encode_upper (packed bs)))
      (member (codes "length") (number (decimal (length bs))) no_members)))

-- a text is that of a JSON value, whose numbers are numbers
pub record ShowsJson (j : Json) (text : List ℕ) : Type 0 where
  pub has_numbers : HasNumbers j
  pub is_text : text ≡ text_of j

-- a text shows bits, of which there are so many where a count is fixed
pub record ShowsBits (fixed : Option ℕ) (bs : List Bool) (text : List ℕ) : Type 0 where
  pub json : Json
  pub are_bits : IsBits fixed bs json
  pub is_text : text ≡ text_of json

-- a character isn't a scalar value of Unicode
pub record HasNoScalar (cs : List ℕ) : Type 0 where
  pub index : ℕ
  pub code : ℕ
  pub found : slice_get cs index ≡ Some code
  pub foreign : OutOfScalarRange code

-- X.697: the kinds whose JSON is a string, and its characters in UTF-8: those of a character string or a time, an octet
-- of GeneralString, GraphicString and TeletexString being the character with its number; the arcs of an identifier; and
-- the year, the month and the day of a date
abbrev pub IsString : Schema → Value → List ℕ → Type 0
IsString (Schema.text TextKind.utf8) (octets os) s = s ≡ os
IsString (Schema.text TextKind.other) (octets os) s = s ≡ encode_utf8_all os
IsString (Schema.time kind) (characters cs) s = s ≡ encode_utf8_all cs
IsString (Schema.char_string alphabet size mark) (characters cs) s = s ≡ encode_utf8_all cs
IsString Schema.identifier (octets os) s = (arcs : List ℕ) × (os ≡ contents arcs) × (s ≡ dotted arcs)
IsString Schema.date (day year month day_of_month) s = s ≡ day_text year month day_of_month
IsString _ v s = ⊥

-- a root component is there, and not at its default
pub data IsThere : Presence → Value → Type 0 where
  is_required : {v : Value} → IsThere Presence.required v
  is_present : {p : Presence} {v : Value} → presence_bit p (Some v) ≡ Some true → IsThere p v

mutual
  -- a JSON value shows a value
  pub data Shows : Schema → Value → Json → Type 0 where
    shows_truth : {b : Bool} → Shows Schema.boolean (truth b) (boolean b)
    shows_nothing : Shows Schema.null nothing null
    shows_whole : {bounds range : Bounds} {mark : Bool} {z : ℤ} {s : List ℕ} → IsWhole z s
        → Shows (Schema.number bounds mark range) (whole z) (number s)
    -- by a list of identifiers, which is any: a schema has none
    shows_item : {roots addeds : ℕ} {extensible : Bool} {v : Value} (names : List (List ℕ))
        → HasNumbers (item_by names (number_of_item roots v))
        → Shows (Schema.items roots addeds extensible) v (item_by names (number_of_item roots v))
    shows_octets : {size : Size} {mark : Bool} {os : List ℕ}
        → Shows (Schema.octet_string size mark) (octets os) (string (encode_upper os))
    shows_any : {os : List ℕ} → Shows Schema.any (octets os) (string (encode_upper os))
    shows_bits : {size : Size} {mark named : Bool} {bs : List Bool} {j : Json}
        → IsBits (fixed_count size mark) bs j
        → Shows (Schema.bit_string size mark named) (bits bs) j
    shows_string : {c : Schema} {v : Value} {s : List ℕ} → IsString c v s → Shows c v (string s)
    shows_list : {e : Schema} {size : Size} {mark : Bool} {vs : List Value} {js : Items} → ShowsAll e vs js
        → Shows (Schema.list e size mark) (list_value vs) (array js)
    -- in any order
    shows_bag : {e : Schema} {size : Size} {mark : Bool} {vs : List Value} {js : Items} → ShowsAll e vs js
        → Shows (Schema.set_of e size mark) (bag_of vs) (array js)
    -- by a list of names for the root, and one for the additions, with a name for each component
    shows_record : {o : Order} {ps qs : Parts} {marker : Bool} {rs xs : List (Option Value)} {ms ns : Members}
        (root added : List (List ℕ)) → ShowsParts root ps rs ns ms → ShowsAdditions added qs xs ns
        → Shows (Schema.sequence o ps marker qs) (record_value rs xs) (object ms)
    -- as the SEQUENCE of its components in ascending order of their smallest tags
    shows_ordered : {ps qs : Parts} {marker : Bool} {j : Json} (rs xs : List (Option Value))
        → Shows (Schema.sequence listed (canonised ps) marker qs) (record_value (canonised_slots ps rs) xs) j
        → Shows (Schema.sequence by_tag ps marker qs) (record_value rs xs) j
    -- X.682 11: octets that contain a value are shown as it
    shows_contents : {e : Schema} {v : Value} {j : Json} → Shows e v j → Shows (Schema.containing e) v j
    shows_alternative : {s : Schema} {ps qs : Parts} {marker : Bool} {d : Side} {k : ℕ} {v : Value} {j : Json}
        {name : List ℕ} → alternative_in (choice_schema ps marker qs) d k ≡ Some s → Shows s v j
        → Shows (choice_schema ps marker qs) (alternative d k v) (object (member name j no_members))

  -- items show elements
  pub data ShowsAll : Schema → List Value → Items → Type 0 where
    shows_end : {e : Schema} → ShowsAll e [] no_items
    shows_next : {e : Schema} {v : Value} {vs : List Value} {j : Json} {js : Items} → Shows e v j → ShowsAll e vs js
        → ShowsAll e (v ∷ vs) (item j js)

  -- Members show root components, in front of further ones: each component has its own name, and one that is absent or
  -- at its default is left out.
  pub data ShowsParts : List (List ℕ) → Parts → List (Option Value) → Members → Members → Type 0 where
    parts_end : {ns : Members} → ShowsParts [] no_parts [] ns ns
    part_there : {name : List ℕ} {names : List (List ℕ)} {t : TagTree} {p : Presence} {s : Schema} {ps : Parts}
        {v : Value} {rs : List (Option Value)} {j : Json} {ns ms : Members} → IsThere p v → Shows s v j
        → ShowsParts names ps rs ns ms
        → ShowsParts (name ∷ names) (part t p s ps) (Some v ∷ rs) ns (member name j ms)
    part_left_out : {name : List ℕ} {names : List (List ℕ)} {t : TagTree} {p : Presence} {s : Schema} {ps : Parts}
        {r : Option Value} {rs : List (Option Value)} {ns ms : Members} → presence_bit p r ≡ Some false
        → ShowsParts names ps rs ns ms → ShowsParts (name ∷ names) (part t p s ps) (r ∷ rs) ns ms

  -- Members show additions: each addition has its own name, and the members of a group, which is a SEQUENCE, stand
  -- among the others.
  pub data ShowsAdditions : List (List ℕ) → Parts → List (Option Value) → Members → Type 0 where
    additions_end : ShowsAdditions [] no_parts [] no_members
    addition_there : {name : List ℕ} {names : List (List ℕ)} {t : TagTree} {p : Presence} {s : Schema} {ps : Parts}
        {v : Value} {xs : List (Option Value)} {j : Json} {ms : Members} → addition_bit p (Some v) ≡ Some true
        → Shows s v j → ShowsAdditions names ps xs ms
        → ShowsAdditions (name ∷ names) (part t p s ps) (Some v ∷ xs) (member name j ms)
    addition_spread : {name : List ℕ} {names : List (List ℕ)} {t : TagTree} {p : Presence} {s : Schema} {ps : Parts}
        {v : Value} {xs : List (Option Value)} {gs ms : Members} → addition_bit p (Some v) ≡ Some true
        → is_group_schema s ≡ true → Shows s v (object gs) → ShowsAdditions names ps xs ms
        → ShowsAdditions (name ∷ names) (part t p s ps) (Some v ∷ xs) (join gs ms)
    addition_left_out : {name : List ℕ} {names : List (List ℕ)} {t : TagTree} {p : Presence} {s : Schema} {ps : Parts}
        {x : Option Value} {xs : List (Option Value)} {ms : Members} → addition_bit p x ≡ Some false
        → ShowsAdditions names ps xs ms → ShowsAdditions (name ∷ names) (part t p s ps) (x ∷ xs) ms

-- a text shows a value
pub record ShowsText (s : Schema) (v : Value) (text : List ℕ) : Type 0 where
  pub json : Json
  pub is_text : text ≡ text_of json
  pub shows : Shows s v json

-- a component that is there, by its schema
pub data HasPart (s : Schema) (v : Value) : Parts → List (Option Value) → Type 0 where
  part_here : {t : TagTree} {p : Presence} {ps : Parts} {rs : List (Option Value)}
      → addition_bit p (Some v) ≡ Some true → HasPart s v (part t p s ps) (Some v ∷ rs)
  part_after : {t : TagTree} {p : Presence} {c : Schema} {r : Option Value} {ps : Parts} {rs : List (Option Value)}
      → HasPart s v ps rs → HasPart s v (part t p c ps) (r ∷ rs)

-- an element of a list, or a member of a bag
pub data HasElement (v : Value) : List Value → Type 0 where
  element_here : {vs : List Value} → HasElement v (v ∷ vs)
  element_after : {w : Value} {vs : List Value} → HasElement v vs → HasElement v (w ∷ vs)

-- A value has no JSON: a REAL, which isn't supported; a value that is absent where one is asked for (X.680 25.6); a
-- time that no text of its type holds; or characters that aren't all scalar values of Unicode.
pub data HasNoJson : Schema → Value → Type 0 where
  is_real : {v : Value} → HasNoJson Schema.real v
  is_absent : {s : Schema} → HasNoJson s no_value
  is_untimely : {kind : TimeKind} {cs : List ℕ} → is_time kind cs ≡ false
      → HasNoJson (Schema.time kind) (characters cs)
  is_no_text : {alphabet : List ℕ} {size : Size} {mark : Bool} {cs : List ℕ} → HasNoScalar cs
      → HasNoJson (Schema.char_string alphabet size mark) (characters cs)

-- a value is NULL, whose encoding takes no memory by the traits, but whose JSON does
pub data IsNull : Schema → Value → Type 0 where
  is_null : {v : Value} → IsNull Schema.null v

-- a fault is in a value: at once, in a component, an addition, an element or a member of it, or in its alternative
pub data StandsIn (fault : Schema → Value → Type 0) : Schema → Value → Type 0 where
  at_once : {s : Schema} {v : Value} → fault s v → StandsIn fault s v
  in_part : {s : Schema} {v : Value} {o : Order} {ps qs : Parts} {marker : Bool} {rs : List (Option Value)}
      (xs : List (Option Value)) → HasPart s v ps rs → StandsIn fault s v
      → StandsIn fault (Schema.sequence o ps marker qs) (record_value rs xs)
  in_addition : {s : Schema} {v : Value} {o : Order} {ps qs : Parts} {marker : Bool} {xs : List (Option Value)}
      (rs : List (Option Value)) → HasPart s v qs xs → StandsIn fault s v
      → StandsIn fault (Schema.sequence o ps marker qs) (record_value rs xs)
  -- X.691 21.1: in the SEQUENCE of a SET's components in ascending order of their smallest tags
  in_set : {ps qs : Parts} {marker : Bool} (rs xs : List (Option Value))
      → StandsIn fault (Schema.sequence listed (canonised ps) marker qs) (record_value (canonised_slots ps rs) xs)
      → StandsIn fault (Schema.sequence by_tag ps marker qs) (record_value rs xs)
  in_element : {e : Schema} {size : Size} {mark : Bool} {v : Value} {vs : List Value} → HasElement v vs
      → StandsIn fault e v → StandsIn fault (Schema.list e size mark) (list_value vs)
  in_member : {e : Schema} {size : Size} {mark : Bool} {v : Value} {vs : List Value} → HasElement v vs
      → StandsIn fault e v → StandsIn fault (Schema.set_of e size mark) (bag_of vs)
  in_contents : {e : Schema} {v : Value} → StandsIn fault e v → StandsIn fault (Schema.containing e) v
  in_alternative : {s : Schema} {v : Value} {ps qs : Parts} {marker : Bool} {d : Side} {k : ℕ}
      → alternative_in (choice_schema ps marker qs) d k ≡ Some s → StandsIn fault s v
      → StandsIn fault (choice_schema ps marker qs) (alternative d k v)

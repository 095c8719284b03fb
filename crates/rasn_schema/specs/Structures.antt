-- What records, choices and lists are made of: the tags by which their parts go, their schemas and their values; and
-- whether a value is of its schema's kind.
use Rattle.std.specs.Prelude.{ℕ, zero, suc, Bool, List, [], ◌∷◌, Option, Some, None, ◌+◌, pos, true, false, ◌&&◌}
use Rattle.std.specs.Prelude.{nat_lt}
use Rattle.rasn_types.specs.Values.{Side, root, added, Value, fields, as_slots, elements, as_values, day, no_slots}
use Rattle.rasn_types.specs.Values.{slots}
use Rattle.rasn_types.specs.Values
use Rattle.rasn_types.specs.Alphabets.{has_all}
use Rattle.rasn_types.specs.Contents.{is_date, is_identifier, is_text, is_time}
use Rattle.rasn_types.specs.declared.types.Tag.{Tag}
use Rattle.rasn_types.specs.declared.types.Class.{Class}
use Rattle.rasn_types.specs.declared.types.Class.TheVariants.{Universal, Application, Context, Private}
use Rattle.rasn_schema.specs.Schemas
use Rattle.rasn_schema.specs.Schemas.{leaf, one_of, smallest, Schema, Parts, no_parts, part, Presence, required}
use Rattle.rasn_schema.specs.Schemas.{optional, group, default, listed, count}

-- X.680 8.6: the classes in ascending order
abbrev pub class_number : Class → ℕ
class_number Universal = 0
class_number Application = 1
class_number Context = 2
class_number Private = 3

abbrev pub tag_of : Tag → Schemas.Tag
tag_of t = record { class = class_number t.class; number = t.value }

-- the tag that a field names: the type's own, or the smallest of an untagged choice
abbrev pub field_tag : Schemas.TagTree → Schemas.Tag
field_tag (leaf t) = t
field_tag (one_of t ts) = smallest (one_of t ts)

-- X.691 23.5: the tags by which alternatives go, in their order; a nested untagged choice is one alternative
abbrev pub tags_of : Parts → List Schemas.Tag
tags_of no_parts = []
tags_of (part t p s ps) = field_tag t ∷ tags_of ps

-- the schema of the alternative at a place of a list
abbrev pub alternative_at : Parts → ℕ → Option Schema
alternative_at no_parts i = None
alternative_at (part t p s ps) zero = Some s
alternative_at (part t p s ps) (suc i) = alternative_at ps i

-- the schema of a choice's alternative at a place of one of its lists
abbrev pub alternative_in : Schema → Side → ℕ → Option Schema
alternative_in (Schema.choice ps qs marker) root i = alternative_at ps i
alternative_in (Schema.choice ps qs marker) added i = alternative_at qs i
alternative_in _ d i = None

-- X.680 29: a choice of the alternatives before an extension marker and those after it
abbrev pub choice_schema : Parts → Bool → Parts → Schema
choice_schema ps marker qs = Schema.choice ps qs marker

-- whether a part has a presence bit
abbrev pub has_bit : Presence → ℕ
has_bit required = 0
has_bit optional = 1
has_bit group = 1
has_bit (default d) = 1

-- X.691 19.2: how many presence bits parts have
abbrev pub presence_bits : Parts → ℕ
presence_bits no_parts = 0
presence_bits (part t p s ps) = has_bit p + presence_bits ps

-- what a record is: its root components and its additions, each absent or there
abbrev pub record_value : List (Option Value) → List (Option Value) → Value
record_value rs xs = fields (as_slots rs) (as_slots xs)

-- what a SEQUENCE OF is: its elements in their order
abbrev pub list_value : List Value → Value
list_value vs = elements (as_values vs)

-- X.680 25.6: what stands for a component that is absent where a value is asked for: a day that isn't in the calendar,
-- which is a value of no schema and has an encoding under none
abbrev pub no_value : Value
no_value = day (pos 0) 0 0

-- a record of these root components, with or without an extension marker, and these additions after it
abbrev pub extended : Parts → Bool → Parts → Schema
extended ps marker qs = Schema.sequence listed ps marker qs

-- X.680 25.6: whether a part may be absent, or there, as it is. Of one with a default this says nothing: where it is
-- absent it has no encoding, but a group of such parts holds nothing, and isn't refused (X.691 19.9).
abbrev pub may_be : Presence → Option Value → Bool
may_be required None = false
may_be p r = true

-- whether what stands for parts is as many, and there where it has to be
abbrev pub all_may_be : Parts → List (Option Value) → Bool
all_may_be no_parts [] = true
all_may_be no_parts (x ∷ xs) = false
all_may_be (part t p s ps) [] = false
all_may_be (part t p s ps) (x ∷ xs) = may_be p x && all_may_be ps xs

-- whether a list has a member at an index
abbrev pub has_at : Parts → ℕ → Bool
has_at ps i = nat_lt i (count ps)

-- whether a value is of a schema's kind, its outermost level alone: of a text, an identifier, a time and a date one
-- that it may be, of a character string characters of its alphabet. Where a tree is cut off, a record without parts may
-- be a group that holds nothing (X.691 19.9).
abbrev pub is_of_kind : Schema → Value → Bool
is_of_kind Schemas.boolean (Values.truth b) = true
is_of_kind Schemas.null Values.nothing = true
is_of_kind Schemas.cut (Values.fields no_slots no_slots) = true
is_of_kind (Schemas.number bounds mark range) (Values.whole z) = true
is_of_kind (Schemas.items roots addeds ext) (Values.item root i) = nat_lt i roots
is_of_kind (Schemas.items roots addeds ext) (Values.item added i) = nat_lt i addeds
is_of_kind (Schemas.octet_string size mark) (Values.octets os) = true
is_of_kind Schemas.any (Values.octets os) = true
is_of_kind (Schemas.text kind) (Values.octets os) = is_text kind os
is_of_kind Schemas.identifier (Values.octets os) = is_identifier os
is_of_kind (Schemas.bit_string size mark named) (Values.bits bs) = true
is_of_kind (Schemas.char_string alphabet size mark) (Values.characters cs) = has_all alphabet cs
is_of_kind (Schemas.time kind) (Values.characters cs) = is_time kind cs
is_of_kind Schemas.date (Values.day y m d) = is_date y m d
is_of_kind (Schemas.containing s) v = is_of_kind s v
is_of_kind (Schemas.list e size mark) (Values.elements vs) = true
is_of_kind (Schemas.set_of e size mark) (Values.bag vs) = true
is_of_kind (Schemas.sequence o ps ext adds) (Values.fields rs xs) = all_may_be ps (slots rs)
    && all_may_be adds (slots xs)
is_of_kind (Schemas.choice ps adds ext) (Values.alternative root i v) = has_at ps i
is_of_kind (Schemas.choice ps adds ext) (Values.alternative added i v) = has_at adds i
is_of_kind _ v = false

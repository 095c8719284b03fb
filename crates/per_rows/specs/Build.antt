-- Types and values in few words.
use Rattle.std.specs.Prelude.{ℕ, zero, suc, ◌+◌, false, true, List, [], ◌∷◌, map, length, Option, Some, None, ℤ, pos}
use Rattle.std.specs.Prelude.{negsuc}
use Rattle.rasn_types.specs.Variants.{aligned, unaligned}
use Rattle.per_core.specs.Spellings.{Settings}
use Rattle.rasn_types.specs.Values.{Value, elements, fields, as_values, as_slots}
use Rattle.rasn_constraints.specs.Bounds.{Bounds, Size, unbounded}
use Rattle.rasn_schema.specs.Schemas.{TagTree, leaf, Presence, required, listed, by_tag, Schema, Parts, no_parts, part}

-- the negative of a number
abbrev pub minus : ℕ → ℤ
minus zero = pos 0
minus (suc n) = negsuc n

-- bounds of a number, and of a count
abbrev pub at_least : ℤ → Bounds
at_least l = record { low = Some l; high = None }

abbrev pub at_most : ℤ → Bounds
at_most u = record { low = None; high = Some u }

abbrev pub sized : ℕ → ℕ → Size
sized l u = record { least = Some l; most = Some u }

abbrev pub sized_to : ℕ → Size
sized_to u = record { least = None; most = Some u }

-- INTEGER, without bounds and within them
abbrev pub integer : Schema
integer = Schema.number unbounded false unbounded

abbrev pub integer_in : Bounds → Schema
integer_in b = Schema.number b false unbounded

abbrev pub extensible_integer : Bounds → Schema
extensible_integer b = Schema.number b true unbounded

-- strings, and lists of any count
abbrev pub octet_string : Size → Schema
octet_string size = Schema.octet_string size false

abbrev pub bit_string : Size → Schema
bit_string size = Schema.bit_string size false false

abbrev pub named_bits : Size → Schema
named_bits size = Schema.bit_string size false true

abbrev pub list_of : Schema → Size → Schema
list_of s size = Schema.list s size false

-- members with automatic tags: context-specific, counted from n
abbrev pub numbered : ℕ → List (Presence × Schema) → Parts
numbered n [] = no_parts
numbered n (m ∷ ms) = part (leaf (record { class = 2; number = n })) m.0 m.1 (numbered (1 + n) ms)

abbrev pub all_required : List Schema → List (Presence × Schema)
all_required ss = map (λ s. (required, s)) ss

-- SEQUENCE: of required parts, of any parts, and with the additions after its extension marker
abbrev pub sequence : List Schema → Schema
sequence ss = Schema.sequence listed (numbered 0 (all_required ss)) false no_parts

abbrev pub sequence_with : List (Presence × Schema) → Schema
sequence_with ms = Schema.sequence listed (numbered 0 ms) false no_parts

abbrev pub extensible_sequence : List Schema → List (Presence × Schema) → Schema
extensible_sequence ss adds = Schema.sequence listed (numbered 0 (all_required ss)) true (numbered (length ss) adds)

-- CHOICE, and with the alternatives after its extension marker
abbrev pub choice : List Schema → Schema
choice ss = Schema.choice (numbered 0 (all_required ss)) no_parts false

abbrev pub extensible_choice : List Schema → List Schema → Schema
extensible_choice ss adds = Schema.choice (numbered 0 (all_required ss)) (numbered (length ss) (all_required adds)) true

-- SET, its members with their tags
abbrev pub members : List (TagTree × Presence × Schema) → Parts
members [] = no_parts
members (m ∷ ms) = part m.0 m.1 m.2 (members ms)

abbrev pub set : List (TagTree × Presence × Schema) → Schema
set ms = Schema.sequence by_tag (members ms) false no_parts

abbrev pub context : ℕ → TagTree
context n = leaf (record { class = 2; number = n })

abbrev pub private_tag : ℕ → TagTree
private_tag n = leaf (record { class = 3; number = n })

-- a record whose parts are all there, one whose parts may be absent, and one with its additions
abbrev pub with_all : List Value → Value
with_all vs = fields (as_slots (map Some vs)) (as_slots [])

abbrev pub record_with : List (Option Value) → Value
record_with ss = fields (as_slots ss) (as_slots [])

abbrev pub extended : List Value → List (Option Value) → Value
extended vs adds = fields (as_slots (map Some vs)) (as_slots adds)

abbrev pub extended_with : List (Option Value) → List (Option Value) → Value
extended_with ss adds = fields (as_slots ss) (as_slots adds)

-- a list of values
abbrev pub list : List Value → Value
list vs = elements (as_values vs)

-- readers of the two variants, and those that want zero padding
abbrev pub uper : Settings
uper = record { variant = unaligned; strict = false }

abbrev pub aper : Settings
aper = record { variant = aligned; strict = false }

abbrev pub zero_padded : Settings → Settings
zero_padded a = record { variant = a.variant; strict = true }

-- The types of the worked encodings.
use Rattle.std.specs.Prelude.{ℕ, zero, suc, false, true, List, [], ◌∷◌, replicate, Some, None, pos}
use Rattle.rasn_types.specs.Values.{Value, whole, truth, day}
use Rattle.rasn_types.specs.Alphabets.{visible, from_to}
use Rattle.rasn_constraints.specs.Bounds.{any_size, between}
use Rattle.rasn_schema.specs.Schemas.{one_of, tree, no_trees, Presence, required, optional, group, default, listed}
use Rattle.rasn_schema.specs.Schemas.{Schema, no_parts}
use Rattle.per_rows.specs.Build.{minus, integer, integer_in, sized, octet_string, list_of, numbered, sequence}
use Rattle.per_rows.specs.Build.{sequence_with, extensible_sequence, choice, extensible_choice, members, set, context}
use Rattle.per_rows.specs.Build.{private_tag, record_with, extended}

-- SEQUENCE { a BOOLEAN, b INTEGER, c BOOLEAN, d INTEGER (-10..400) }
abbrev pub four : Schema
four = sequence (Schema.boolean ∷ integer ∷ Schema.boolean ∷ integer_in (between (minus 10) (pos 400)) ∷ [])

-- SEQUENCE { a BOOLEAN, b OCTET STRING (SIZE (0..3)), c BOOLEAN }
abbrev pub empty_middle : Schema
empty_middle = sequence (Schema.boolean ∷ octet_string (sized 0 3) ∷ Schema.boolean ∷ [])

-- SEQUENCE { a BOOLEAN, e ENUMERATED of 256 root items }
abbrev pub with_item : Schema
with_item = sequence (Schema.boolean ∷ Schema.items 256 0 false ∷ [])

-- SEQUENCE { a INTEGER (0..7) DEFAULT 3 }
abbrev pub with_default : Schema
with_default = sequence_with ((default (whole (pos 3)), integer_in (between (pos 0) (pos 7))) ∷ [])

-- VisibleString (SIZE (1..3, ...)), VisibleString (FROM ("A".."E")) (SIZE (1..20)), IA5String (FROM ("x"))
abbrev pub short_visible : Schema
short_visible = Schema.char_string visible (sized 1 3) true

abbrev pub a_to_e : Schema
a_to_e = Schema.char_string (from_to 5 65) (sized 1 20) false

abbrev pub only_x : Schema
only_x = Schema.char_string (120 ∷ []) any_size false

-- SEQUENCE of eight BOOLEAN
abbrev pub byte : Schema
byte = sequence (replicate 8 Schema.boolean)

-- SEQUENCE { octets OCTET STRING (SIZE (3)) }, and a SEQUENCE with lists of these
abbrev pub element : Schema
element = sequence (octet_string (sized 3 3) ∷ [])

abbrev pub with_lists : Schema
with_lists = sequence (Schema.boolean ∷ list_of element (sized 2 2) ∷ list_of element (sized 1 4)
    ∷ integer_in (between (pos 0) (pos 255)) ∷ [])

-- Nest ::= SEQUENCE { inner Nest OPTIONAL }, unfolded to so many levels, and its value with so many inside the first
abbrev pub nest : ℕ → Schema
nest zero = Schema.cut
nest (suc n) = sequence_with ((optional, nest n) ∷ [])

abbrev pub nested : ℕ → Value
nested zero = record_with (None ∷ [])
nested (suc n) = record_with (Some (nested n) ∷ [])

-- SEQUENCE { d Nest DEFAULT a value of 200 levels }
abbrev pub deep : ℕ → Schema
deep zero = Schema.cut
deep (suc n) = sequence_with ((default (nested 199), nest n) ∷ [])

-- SEQUENCE { flag BOOLEAN, octets OCTET STRING (SIZE (3)) }
abbrev pub inner : Schema
inner = sequence (Schema.boolean ∷ octet_string (sized 3 3) ∷ [])

-- CHOICE { plain BOOLEAN, inner Inner, ..., added Inner }, and a SEQUENCE with two of these
abbrev pub plain_or_inner : Schema
plain_or_inner = extensible_choice (Schema.boolean ∷ inner ∷ []) (inner ∷ [])

abbrev pub alternatives : Schema
alternatives = sequence (Schema.boolean ∷ plain_or_inner ∷ plain_or_inner ∷ integer_in (between (pos 0) (pos 255)) ∷ [])

-- CHOICE { a BOOLEAN, ... } and CHOICE { a BOOLEAN, ..., b BOOLEAN }
abbrev pub one_alternative : Schema
one_alternative = extensible_choice (Schema.boolean ∷ []) []

abbrev pub two_alternatives : Schema
two_alternatives = extensible_choice (Schema.boolean ∷ []) (Schema.boolean ∷ [])

-- CHOICE { p [1] BOOLEAN, q [2] NULL }, and CHOICE { x [0] BOOLEAN, y the former, untagged, z [3] NULL }
abbrev pub p_or_q : Schema
p_or_q = Schema.choice (members ((context 1, required, Schema.boolean) ∷ (context 2, required, Schema.null)
    ∷ [])) no_parts false

abbrev pub x_y_or_z : Schema
x_y_or_z = Schema.choice (members (
    (context 0, required, Schema.boolean) ∷ (one_of (context 1) (tree (context 2) no_trees), required, p_or_q)
    ∷ (context 3, required, Schema.null) ∷ [])) no_parts false

-- SEQUENCE { key CHOICE { object OBJECT IDENTIFIER, other OCTET STRING }, pdu OCTET STRING }
abbrev pub connect : Schema
connect = sequence (choice (Schema.identifier ∷ octet_string any_size ∷ []) ∷ octet_string any_size ∷ [])

-- SEQUENCE { first BOOLEAN, second BOOLEAN, ... }
abbrev pub outer1 : Schema
outer1 = extensible_sequence (Schema.boolean ∷ Schema.boolean ∷ []) []

-- the extensible SEQUENCE of two BOOLEANs with the addition group [[ flag BOOLEAN, octets OCTET STRING (SIZE (3)) ]]
abbrev pub outer2 : Schema
outer2 = extensible_sequence (Schema.boolean ∷ Schema.boolean ∷ []) ((group, inner) ∷ [])

-- the extensible SEQUENCE of two BOOLEANs with the addition group [[ flag BOOLEAN, octets OCTET STRING (SIZE (3)) ]]
-- and the addition OCTET STRING (SIZE (3)) OPTIONAL
abbrev pub outer3 : Schema
outer3 = extensible_sequence (Schema.boolean ∷ Schema.boolean ∷ [])
    ((group, inner) ∷ (optional, octet_string (sized 3 3)) ∷ [])

-- SEQUENCE { first BOOLEAN, ..., [[ x BOOLEAN OPTIONAL ]] }
abbrev pub with_group : Schema
with_group = extensible_sequence (Schema.boolean ∷ []) ((group, sequence_with ((optional, Schema.boolean) ∷ [])) ∷ [])

-- SEQUENCE { ..., 65 additions BOOLEAN OPTIONAL }
abbrev pub many : Schema
many = extensible_sequence [] (replicate 65 (optional, Schema.boolean))

-- SEQUENCE { ... }, SEQUENCE { ..., a BOOLEAN, b BOOLEAN OPTIONAL } and SEQUENCE { ..., a INTEGER (0..7) DEFAULT 3 }
abbrev pub no_additions : Schema
no_additions = extensible_sequence [] []

abbrev pub required_addition : Schema
required_addition = extensible_sequence [] ((required, Schema.boolean) ∷ (optional, Schema.boolean) ∷ [])

abbrev pub default_addition : Schema
default_addition = extensible_sequence [] ((default (whole (pos 3)), integer_in (between (pos 0) (pos 7))) ∷ [])

-- SET { b [1] INTEGER (0..255), a [0] BOOLEAN }
abbrev pub b_before_a : Schema
b_before_a = set ((context 1, required, integer_in (between (pos 0) (pos 255))) ∷ (context 0, required, Schema.boolean)
    ∷ [])

-- SET { p [PRIVATE 0] BOOLEAN OPTIONAL, q [0] BOOLEAN OPTIONAL, r [1] BOOLEAN OPTIONAL }
abbrev pub optional_members : Schema
optional_members = set ((private_tag 0, optional, Schema.boolean) ∷ (context 0, optional, Schema.boolean)
    ∷ (context 1, optional, Schema.boolean) ∷ [])

-- SET { k [5] BOOLEAN, c CHOICE { m [3] BOOLEAN, n [9] NULL } }, c untagged
abbrev pub untagged_member : Schema
untagged_member = set (
    (context 5, required, Schema.boolean)
    ∷ (
      one_of (context 3) (tree (context 9) no_trees),
      required,
      Schema.choice
          (members ((context 3, required, Schema.boolean) ∷ (context 9, required, Schema.null) ∷ [])) no_parts false,
    )
    ∷ [])

-- SEQUENCE { x BOOLEAN OPTIONAL, ... }, with some additions
abbrev pub with_x : List (Presence × Schema) → Schema
with_x adds = Schema.sequence listed (numbered 0 ((optional, Schema.boolean) ∷ [])) true (numbered 1 adds)

-- SEQUENCE { first BOOLEAN, ..., an addition group }: the group SEQUENCE { x BOOLEAN OPTIONAL, ... },
-- and SEQUENCE { x BOOLEAN OPTIONAL, ..., y BOOLEAN OPTIONAL }
abbrev pub open_group : Schema
open_group = extensible_sequence (Schema.boolean ∷ []) ((group, with_x []) ∷ [])

abbrev pub longer_group : Schema
longer_group = extensible_sequence (Schema.boolean ∷ []) ((group, with_x ((optional, Schema.boolean) ∷ [])) ∷ [])

-- ENUMERATED { a, ... } and ENUMERATED { a, ..., b }
abbrev pub one_color : Schema
one_color = Schema.items 1 0 true

abbrev pub two_colors : Schema
two_colors = Schema.items 1 1 true

-- SEQUENCE { o outer1 DEFAULT (TRUE, FALSE) }, and with outer3, its default with both additions absent
abbrev pub default1 : Schema
default1 = sequence_with ((default (extended (truth true ∷ truth false ∷ []) []), outer1) ∷ [])

abbrev pub default3 : Schema
default3 = sequence_with ((default (extended (truth true ∷ truth false ∷ []) (None ∷ None ∷ [])), outer3) ∷ [])

-- SEQUENCE { a BOOLEAN, ... }, and with the addition deep Nest OPTIONAL
abbrev pub shallow_version : Schema
shallow_version = extensible_sequence (Schema.boolean ∷ []) []

abbrev pub deep_version : ℕ → Schema
deep_version zero = Schema.cut
deep_version (suc n) = extensible_sequence (Schema.boolean ∷ []) ((optional, nest n) ∷ [])

-- SEQUENCE { inner the same OPTIONAL, d DATE OPTIONAL }, unfolded to so many levels, of which a date takes two; and its
-- value with so many records inside the first and a date in the last
abbrev pub date_at : ℕ → Schema
date_at zero = Schema.cut
date_at (suc zero) = Schema.cut
date_at (suc (suc n)) = Schema.date

abbrev pub dated : ℕ → Schema
dated zero = Schema.cut
dated (suc n) = sequence_with ((optional, dated n) ∷ (optional, date_at n) ∷ [])

abbrev pub dated_value : ℕ → Value
dated_value zero = record_with (None ∷ Some (day (pos 2010) 1 1) ∷ [])
dated_value (suc n) = record_with (Some (dated_value n) ∷ None ∷ [])

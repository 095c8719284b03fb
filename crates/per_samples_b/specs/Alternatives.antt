-- SEQUENCE { first BOOLEAN, root Alt, extension Alt, trailer INTEGER (0..255) },
-- Alt ::= CHOICE { plain BOOLEAN, inner Inner, ..., added Inner },
-- Inner ::= SEQUENCE { flag BOOLEAN, octets OCTET STRING (SIZE (3)) }, with automatic tags
use Rattle.std.specs.Prelude.{[], ◌∷◌}
use Rattle.rasn_below.specs.Page.{TypeLists, automatic, extensible_automatic, boolean, choice, integer, octet_string}
use Rattle.rasn_below.specs.Page.{sequence, u8, ◌to◌, size◌to◌}

-- the components of Inner
abbrev pub inner : TypeLists
inner = automatic (boolean ∷ octet_string (size 3 to 3) ∷ [])

-- the alternatives of Alt
abbrev pub alt : TypeLists
alt = extensible_automatic (boolean ∷ sequence inner ∷ []) (sequence inner ∷ [])

-- the components of the SEQUENCE
abbrev pub two_alternatives : TypeLists
two_alternatives = automatic (boolean ∷ choice alt ∷ choice alt ∷ integer u8 (0 to 255) ∷ [])

-- outer1 ::= SEQUENCE { first BOOLEAN, second BOOLEAN, ... }
-- outer2 ::= SEQUENCE { first BOOLEAN, second BOOLEAN, ..., [[ flag BOOLEAN, octets OCTET STRING (SIZE (3)) ]] }
-- outer3 ::= SEQUENCE { first BOOLEAN, second BOOLEAN, ..., [[ flag BOOLEAN, octets OCTET STRING (SIZE (3)) ]], after
-- OCTET STRING (SIZE (3)) OPTIONAL }
use Rattle.std.specs.Prelude.{[], ◌∷◌}
use Rattle.rasn_below.specs.Page.{TypeLists, automatic, extensible_automatic, boolean, octet_string, optional, sequence}
use Rattle.rasn_below.specs.Page.{size◌to◌, group}

-- the components of the group
abbrev pub flagged : TypeLists
flagged = automatic (boolean ∷ octet_string (size 3 to 3) ∷ [])

abbrev pub outer1 : TypeLists
outer1 = extensible_automatic (boolean ∷ boolean ∷ []) []

abbrev pub outer2 : TypeLists
outer2 = extensible_automatic (boolean ∷ boolean ∷ []) (group (sequence flagged) ∷ [])

abbrev pub outer3 : TypeLists
outer3 = extensible_automatic (boolean ∷ boolean ∷ [])
    (group (sequence flagged) ∷ optional (octet_string (size 3 to 3)) ∷ [])

-- SEQUENCE {
-- flag BOOLEAN, fixed SEQUENCE (SIZE (2)) OF Triple, ranged SEQUENCE (SIZE (1..4)) OF Triple, trailer INTEGER (0..255)
-- }, and Triple ::= SEQUENCE { octets OCTET STRING (SIZE (3)) }
use Rattle.std.specs.Prelude.{[], ◌∷◌}
use Rattle.rasn_below.specs.Page.{automatic, boolean, integer, octet_string, sequence, sequence_of, u8, ◌to◌, size◌to◌}
use Rattle.rasn_below.specs.Page.{TypeLists}

abbrev pub triple : TypeLists
triple = automatic (octet_string (size 3 to 3) ∷ [])

abbrev pub elements : TypeLists
elements = automatic (
    boolean ∷
    sequence_of (size 2 to 2) (sequence triple) ∷
    sequence_of (size 1 to 4) (sequence triple) ∷
    integer u8 (0 to 255) ∷ [])

-- SEQUENCE { code VisibleString (SIZE (1..4)) (FROM ("A".."E")), three OCTET STRING (SIZE (3)), five INTEGER (5),
-- most INTEGER (MIN..9), least INTEGER (-1..MAX) }
use Rattle.std.specs.Prelude.{[], ◌∷◌}
use Rattle.rasn_below.specs.Page.{automatic, integer, octet_string, visible_string, of_characters, big, u8, up_to}
use Rattle.rasn_below.specs.Page.{from_minus, ◌to◌, size◌to◌, TypeLists}
use Rattle.rasn_below.specs.Types.{from_to}

abbrev pub brackets : TypeLists
brackets = automatic (
    visible_string (of_characters (from_to 5 65) (size 1 to 4)) ∷
    octet_string (size 3 to 3) ∷
    integer u8 (5 to 5) ∷
    integer big (up_to 9) ∷
    integer big (from_minus 1) ∷ [])

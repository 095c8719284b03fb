-- Records of many optional components.
use Rattle.std.specs.Prelude.{[], ◌∷◌}
use Rattle.rasn_below.specs.Page.{automatic, optional, boolean, integer, null, octet_string, bit_string, sequence}
use Rattle.rasn_below.specs.Page.{sequence_of, TypeLists}
use Rattle.rasn_below.specs.Page.{big, u8, i8, any, ◌to◌, minus◌to◌, size◌to◌}

-- SEQUENCE {
--     a BOOLEAN OPTIONAL, b INTEGER (0..7) OPTIONAL, c NULL OPTIONAL, d INTEGER (-8..7) OPTIONAL,
--     e OCTET STRING (SIZE (1)) OPTIONAL, f BOOLEAN OPTIONAL, g INTEGER (0..255) OPTIONAL, h BOOLEAN OPTIONAL,
--     i BIT STRING (SIZE (4)) OPTIONAL, j INTEGER OPTIONAL, k BOOLEAN OPTIONAL, l INTEGER (0..3) OPTIONAL
-- }
abbrev pub twelve : TypeLists
twelve = automatic (
    optional boolean ∷
    optional (integer u8 (0 to 7)) ∷
    optional null ∷
    optional (integer i8 (minus 8 to 7)) ∷
    optional (octet_string (size 1 to 1)) ∷
    optional boolean ∷
    optional (integer u8 (0 to 255)) ∷
    optional boolean ∷
    optional (bit_string (size 4 to 4)) ∷
    optional (integer big any) ∷
    optional boolean ∷
    optional (integer u8 (0 to 3)) ∷ [])

-- SEQUENCE {
--     a Flags OPTIONAL, b Flags OPTIONAL, c twelve OPTIONAL, d Flags OPTIONAL, e twelve OPTIONAL, f Flags OPTIONAL,
--     g BOOLEAN
-- }, where Flags ::= SEQUENCE (SIZE (0..3)) OF BOOLEAN
abbrev pub six : TypeLists
six = automatic (
    optional (sequence_of (size 0 to 3) boolean) ∷
    optional (sequence_of (size 0 to 3) boolean) ∷
    optional (sequence twelve) ∷
    optional (sequence_of (size 0 to 3) boolean) ∷
    optional (sequence twelve) ∷
    optional (sequence_of (size 0 to 3) boolean) ∷
    boolean ∷ [])

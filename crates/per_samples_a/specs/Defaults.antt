-- SEQUENCE {
--     signed INTEGER (-8..7) DEFAULT -5, any INTEGER DEFAULT 0, octets OCTET STRING (SIZE (0..15)) DEFAULT '0102'H,
--     text VisibleString (SIZE (0..15)) DEFAULT "hi", last BOOLEAN
-- }
use Rattle.std.specs.Prelude.{[], ◌∷◌, true, false, codes, negsuc, pos}
use Rattle.rasn_below.specs.Page.{automatic, default, whole, octets, bits, characters, list_value, TypeLists}
use Rattle.rasn_below.specs.Page.{boolean, integer, bit_string, named_bits, octet_string, visible_string, sequence_of}
use Rattle.rasn_below.specs.Page.{big, i8, any, minus◌to◌, size◌to◌}

abbrev pub defaults : TypeLists
defaults = automatic (
    default (whole (negsuc 4)) (integer i8 (minus 8 to 7)) ∷
    default (whole (pos 0)) (integer big any) ∷
    default (octets (1 ∷ 2 ∷ [])) (octet_string (size 0 to 15)) ∷
    default (characters (codes "hi")) (visible_string (size 0 to 15)) ∷
    boolean ∷ [])

-- SEQUENCE { list SEQUENCE (SIZE (0..3)) OF BOOLEAN DEFAULT {}, last BOOLEAN }
abbrev pub default_list : TypeLists
default_list = automatic (
    default (list_value []) (sequence_of (size 0 to 3) boolean) ∷
    boolean ∷ [])

-- SEQUENCE { bits BIT STRING (SIZE (0..7)) DEFAULT '101'B, last BOOLEAN }
abbrev pub default_bits : TypeLists
default_bits = automatic (
    default (bits (true ∷ false ∷ true ∷ [])) (bit_string (size 0 to 7)) ∷
    boolean ∷ [])

-- SEQUENCE { any Lights DEFAULT {green}, bounded Lights (SIZE (4..8)) DEFAULT {red} }, where Lights ::= BIT STRING {
--     red(0), yellow(1), green(2)
-- }
abbrev pub default_named_bits : TypeLists
default_named_bits = automatic (
    default (bits (false ∷ false ∷ true ∷ [])) (named_bits any) ∷
    default (bits (true ∷ false ∷ false ∷ false ∷ [])) (named_bits (size 4 to 8)) ∷ [])

-- Components that may be absent.
use Rattle.std.specs.Prelude.{[], ◌∷◌, pos}
use Rattle.rasn_below.specs.Page.{whole, automatic, boolean, integer, optional, default, u8, ◌to◌, TypeLists}

-- SEQUENCE { a INTEGER (0..7) DEFAULT 3 }
abbrev pub one_default : TypeLists
one_default = automatic (default (whole (pos 3)) (integer u8 (0 to 7)) ∷ [])

-- SEQUENCE { a BOOLEAN, b INTEGER (0..7) OPTIONAL, c INTEGER (0..7) DEFAULT 3 }
abbrev pub some_absent : TypeLists
some_absent = automatic (
    boolean ∷
    optional (integer u8 (0 to 7)) ∷
    default (whole (pos 3)) (integer u8 (0 to 7)) ∷ [])

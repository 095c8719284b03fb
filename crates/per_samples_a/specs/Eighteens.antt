-- SEQUENCE { a BOOLEAN, b BOOLEAN, .., p BOOLEAN, q INTEGER (0..7) OPTIONAL, r INTEGER (0..7) DEFAULT 3 }
use Rattle.std.specs.Prelude.{[], ◌∷◌, pos}
use Rattle.rasn_below.specs.Page.{whole, automatic, boolean, integer, optional, default, u8, ◌to◌, TypeLists}

abbrev pub eighteen : TypeLists
eighteen = automatic (
    boolean ∷ boolean ∷ boolean ∷ boolean ∷ boolean ∷ boolean ∷ boolean ∷ boolean ∷
    boolean ∷ boolean ∷ boolean ∷ boolean ∷ boolean ∷ boolean ∷ boolean ∷ boolean ∷
    optional (integer u8 (0 to 7)) ∷
    default (whole (pos 3)) (integer u8 (0 to 7)) ∷ [])

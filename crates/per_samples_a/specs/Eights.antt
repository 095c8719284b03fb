-- SEQUENCE { a BOOLEAN, b INTEGER, c NULL, d BOOLEAN, e INTEGER, f BOOLEAN, g NULL, h INTEGER }
use Rattle.std.specs.Prelude.{[], ◌∷◌}
use Rattle.rasn_below.specs.Page.{automatic, boolean, integer, null, i128, any, TypeLists}

abbrev pub eight : TypeLists
eight = automatic (
    boolean ∷
    integer i128 any ∷
    null ∷
    boolean ∷
    integer i128 any ∷
    boolean ∷
    null ∷
    integer i128 any ∷ [])

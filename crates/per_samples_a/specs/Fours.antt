-- SEQUENCE { a BOOLEAN, b INTEGER, c BOOLEAN, d INTEGER (-10..400) }
use Rattle.std.specs.Prelude.{[], ◌∷◌}
use Rattle.rasn_below.specs.Page.{automatic, boolean, integer, big, any, minus◌to◌, TypeLists}

abbrev pub four : TypeLists
four = automatic (
    boolean ∷
    integer big any ∷
    boolean ∷
    integer big (minus 10 to 400) ∷ [])

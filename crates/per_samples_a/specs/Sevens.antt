-- SEQUENCE { a INTEGER (7..7) }
use Rattle.std.specs.Prelude.{[], ◌∷◌}
use Rattle.rasn_below.specs.Page.{automatic, integer, big, ◌to◌, TypeLists}

abbrev pub seven : TypeLists
seven = automatic (integer big (7 to 7) ∷ [])

-- SEQUENCE { b0 BOOLEAN, b1 BOOLEAN, b2 BOOLEAN, b3 BOOLEAN, b4 BOOLEAN, b5 BOOLEAN, b6 BOOLEAN, b7 BOOLEAN }
use Rattle.std.specs.Prelude.{[], ◌∷◌}
use Rattle.rasn_below.specs.Page.{automatic, boolean, TypeLists}

abbrev pub byte : TypeLists
byte = automatic (boolean ∷ boolean ∷ boolean ∷ boolean ∷ boolean ∷ boolean ∷ boolean ∷ boolean ∷ [])

-- SEQUENCE { a BOOLEAN, e ENUMERATED of 256 items }
use Rattle.std.specs.Prelude.{[], ◌∷◌}
use Rattle.rasn_below.specs.Page.{automatic, boolean, enumerated, TypeLists}

abbrev pub with_item : TypeLists
with_item = automatic (boolean ∷ enumerated 256 ∷ [])

-- SEQUENCE { ... }, SEQUENCE { ..., a BOOLEAN, b BOOLEAN OPTIONAL }, and SEQUENCE { ..., a INTEGER (0..7) DEFAULT 3 }
use Rattle.std.specs.Prelude.{pos, [], ◌∷◌}
use Rattle.rasn_below.specs.Page.{TypeLists, whole, extensible_automatic, boolean, default, integer, optional, u8, ◌to◌}

abbrev pub none_needed : TypeLists
none_needed = extensible_automatic [] []

abbrev pub one_needed : TypeLists
one_needed = extensible_automatic [] (boolean ∷ optional boolean ∷ [])

abbrev pub added_default : TypeLists
added_default = extensible_automatic [] (default (whole (pos 3)) (integer u8 (0 to 7)) ∷ [])

-- SEQUENCE { a BOOLEAN, b OCTET STRING (SIZE (0..3)), c BOOLEAN }
use Rattle.std.specs.Prelude.{[], ◌∷◌}
use Rattle.rasn_below.specs.Page.{automatic, boolean, octet_string, size◌to◌, TypeLists}

abbrev pub maybe_empty : TypeLists
maybe_empty = automatic (boolean ∷ octet_string (size 0 to 3) ∷ boolean ∷ [])

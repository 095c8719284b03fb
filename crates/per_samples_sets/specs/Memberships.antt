-- SEQUENCE { group OBJECT IDENTIFIER, members SET (SIZE (1..4)) OF INTEGER }, with automatic tags
use Rattle.std.specs.Prelude.{[], ◌∷◌}
use Rattle.rasn_below.specs.Page.{any, automatic, big, integer, object_identifier, set_of, size◌to◌, TypeLists}

-- the components of the SEQUENCE
abbrev pub membership : TypeLists
membership = automatic (object_identifier ∷ set_of (size 1 to 4) (integer big any) ∷ [])

-- SEQUENCE { first BOOLEAN, ..., [[ x BOOLEAN OPTIONAL ]] }
use Rattle.std.specs.Prelude.{[], ◌∷◌}
use Rattle.rasn_below.specs.Page.{TypeLists, automatic, extensible_automatic, boolean, optional, sequence, group}

-- the components of the group
abbrev pub possible : TypeLists
possible = automatic (optional boolean ∷ [])

abbrev pub grouped : TypeLists
grouped = extensible_automatic (boolean ∷ []) (group (sequence possible) ∷ [])

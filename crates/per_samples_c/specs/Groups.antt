-- SEQUENCE { first BOOLEAN, ..., an addition group }, in two versions of the group's SEQUENCE, which has a marker of
-- its own: SEQUENCE { x BOOLEAN OPTIONAL, ... } and SEQUENCE { x BOOLEAN OPTIONAL, ..., y BOOLEAN OPTIONAL }
use Rattle.std.specs.Prelude.{[], ◌∷◌}
use Rattle.rasn_below.specs.Page.{TypeLists, extensible_automatic, boolean, optional, sequence, group}

-- the group in both versions
abbrev pub group_1 : TypeLists
group_1 = extensible_automatic (optional boolean ∷ []) []

abbrev pub group_2 : TypeLists
group_2 = extensible_automatic (optional boolean ∷ []) (optional boolean ∷ [])

-- the record in both versions
abbrev pub grouped_1 : TypeLists
grouped_1 = extensible_automatic (boolean ∷ []) (group (sequence group_1) ∷ [])

abbrev pub grouped_2 : TypeLists
grouped_2 = extensible_automatic (boolean ∷ []) (group (sequence group_2) ∷ [])

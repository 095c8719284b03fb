-- Several ::= CHOICE { a BOOLEAN, none NULL, ..., small INTEGER (0..7), done NULL }, with automatic tags
use Rattle.std.specs.Prelude.{[], ◌∷◌, pos}
use Rattle.rasn_below.specs.Page.{TypeLists, nothing, truth, whole, Chosen, chosen, chosen_behind, extensible_automatic}
use Rattle.rasn_below.specs.Page.{own_tags, at, boolean, choice, integer, null, u8, under, ◌to◌}
use Rattle.per_samples_b.specs.declared.several.Several.{Several}
use Rattle.per_samples_b.specs.declared.several.Several.TheVariants.{A, Nothing, Small, Done}

abbrev pub several : TypeLists
several = extensible_automatic (boolean ∷ null ∷ []) (integer u8 (0 to 7) ∷ null ∷ [])

-- the alternative that a value is
abbrev pub several_chosen : Several → Chosen
several_chosen (A a) = chosen 0 (truth a)
several_chosen Nothing = chosen 1 nothing
several_chosen (Small n) = chosen_behind 0 (whole (pos n))
several_chosen Done = chosen_behind 1 nothing

-- SEQUENCE { choice Several, lane [4] INTEGER (0..7) }, whose tags are its own
abbrev pub beside_several : TypeLists
beside_several = own_tags (choice several ∷ under (at 4) (integer u8 (0 to 7)) ∷ [])

-- Alt2 ::= CHOICE { a BOOLEAN, ..., b BOOLEAN }, with automatic tags
use Rattle.std.specs.Prelude.{[], ◌∷◌}
use Rattle.rasn_below.specs.Page.{TypeLists, truth, Chosen, chosen, chosen_behind, extensible_automatic, boolean}
use Rattle.per_samples_b.specs.declared.alt2.Alt2.{Alt2}
use Rattle.per_samples_b.specs.declared.alt2.Alt2.TheVariants.{A, B}

abbrev pub alt2 : TypeLists
alt2 = extensible_automatic (boolean ∷ []) (boolean ∷ [])

-- the alternative that a value is
abbrev pub alt2_chosen : Alt2 → Chosen
alt2_chosen (A a) = chosen 0 (truth a)
alt2_chosen (B b) = chosen_behind 0 (truth b)

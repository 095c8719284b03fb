-- Alt1 ::= CHOICE { a BOOLEAN, ... }, with automatic tags
use Rattle.std.specs.Prelude.{[], ◌∷◌}
use Rattle.rasn_below.specs.Page.{TypeLists, truth, Chosen, chosen, extensible_automatic, boolean}
use Rattle.per_samples_b.specs.declared.alt1.Alt1.{Alt1}
use Rattle.per_samples_b.specs.declared.alt1.Alt1.TheVariants.{A}

abbrev pub alt1 : TypeLists
alt1 = extensible_automatic (boolean ∷ []) []

-- the alternative that a value is
abbrev pub alt1_chosen : Alt1 → Chosen
alt1_chosen (A a) = chosen 0 (truth a)

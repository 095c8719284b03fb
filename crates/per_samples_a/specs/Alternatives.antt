-- CHOICE { x BOOLEAN, y INTEGER (0..7) }
use Rattle.std.specs.Prelude.{pos, [], ◌∷◌}
use Rattle.rasn_below.specs.Page.{truth, whole, Chosen, chosen, automatic, boolean, integer, u8, ◌to◌, TypeLists}
use Rattle.per_samples_a.specs.declared.alternative.Alternative.{Alternative}
use Rattle.per_samples_a.specs.declared.alternative.Alternative.TheVariants.{X, Y}

-- the alternatives, each as a component
abbrev pub alternatives : TypeLists
alternatives = automatic (boolean ∷ integer u8 (0 to 7) ∷ [])

-- the alternative that a value is
abbrev pub alternative_of : Alternative → Chosen
alternative_of (X x) = chosen 0 (truth x)
alternative_of (Y y) = chosen 1 (whole (pos y.value))

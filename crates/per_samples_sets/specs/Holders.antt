-- SEQUENCE { set SET { b [1] INTEGER (0..255), a [0] BOOLEAN } OPTIONAL, last BOOLEAN }, with automatic tags
use Rattle.std.specs.Prelude.{[], ◌∷◌}
use Rattle.rasn_below.specs.Page.{automatic, boolean, optional, set, TypeLists}
use Rattle.per_samples_sets.specs.Sets.{set as components}

-- the components of the SEQUENCE
abbrev pub holder : TypeLists
holder = automatic (optional (set components) ∷ boolean ∷ [])

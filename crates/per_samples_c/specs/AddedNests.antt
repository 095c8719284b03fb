-- SEQUENCE { a BOOLEAN, ..., deep Nest OPTIONAL }, and without the addition
use Rattle.std.specs.Prelude.{[], ◌∷◌}
use Rattle.rasn_below.specs.Page.{TypeLists, extensible_automatic, boolean, optional, sequence}
use Rattle.per_samples_c.specs.Nests.{nest}

abbrev pub before_nest : TypeLists
before_nest = extensible_automatic (boolean ∷ []) []

abbrev pub added_nest : TypeLists
added_nest = extensible_automatic (boolean ∷ []) (optional (sequence nest) ∷ [])

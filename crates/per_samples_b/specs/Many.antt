-- SEQUENCE { ..., a0 BOOLEAN OPTIONAL, a1 BOOLEAN OPTIONAL, and so on up to a64 }
use Rattle.std.specs.Prelude.{ℕ, List, [], replicate}
use Rattle.rasn_below.specs.Page.{Component, TypeLists, automatic_from, extensible_own_tags, boolean, optional}

-- so many optional truth values, under automatic tags from a place on
abbrev pub truths_from : ℕ → ℕ → List Component
truths_from place count = automatic_from place (replicate count (optional boolean))

abbrev pub many : TypeLists
many = extensible_own_tags [] (truths_from 0 65)

-- SEQUENCE { since UTCTime, until GeneralizedTime OPTIONAL }, with automatic tags
use Rattle.std.specs.Prelude.{[], ◌∷◌}
use Rattle.rasn_below.specs.Page.{automatic, generalized_time, optional, utc_time, TypeLists}

-- the components of the SEQUENCE
abbrev pub period : TypeLists
period = automatic (utc_time ∷ optional generalized_time ∷ [])

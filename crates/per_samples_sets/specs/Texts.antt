-- SEQUENCE { title TeletexString, figure GraphicString, note GeneralString OPTIONAL, rest ANY }, with automatic tags
use Rattle.std.specs.Prelude.{[], ◌∷◌}
use Rattle.rasn_below.specs.Page.{automatic, general_string, graphic_string, open_type, optional, teletex_string}
use Rattle.rasn_below.specs.Page.{TypeLists}

-- the components of the SEQUENCE
abbrev pub texts : TypeLists
texts = automatic (teletex_string ∷ graphic_string ∷ optional general_string ∷ open_type ∷ [])

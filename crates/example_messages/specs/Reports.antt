-- first_report ::= SEQUENCE { station INTEGER (0..65535), speed INTEGER (0..255), ... }
-- second_report ::= SEQUENCE { station INTEGER (0..65535), speed INTEGER (0..255), ...,
-- heading INTEGER (0..359) OPTIONAL }
use Rattle.std.specs.Prelude.{[], ◌∷◌}
use Rattle.rasn_below.specs.Page.{TypeLists, extensible_automatic, integer, optional, u8, u16, ◌to◌}

abbrev pub first_report : TypeLists
first_report = extensible_automatic (integer u16 (0 to 65535) ∷ integer u8 (0 to 255) ∷ []) []

abbrev pub second_report : TypeLists
second_report = extensible_automatic (integer u16 (0 to 65535) ∷ integer u8 (0 to 255) ∷ [])
    (optional (integer u16 (0 to 359)) ∷ [])

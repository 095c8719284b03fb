-- Spot ::= SEQUENCE { area ActionArea, lane [3] INTEGER (0..7) }, whose tags are its own
use Rattle.std.specs.Prelude.{[], ◌∷◌}
use Rattle.rasn_below.specs.Page.{choice, integer, under, at, u8, ◌to◌, TypeLists, own_tags}
use Rattle.its_header.specs.Areas.{area}

abbrev pub spot : TypeLists
spot = own_tags (choice area ∷ under (at 3) (integer u8 (0 to 7)) ∷ [])

-- Warning ::= SEQUENCE {
-- direction DriveDirection OPTIONAL, area ActionArea, positions SEQUENCE (SIZE (1..4)) OF ReferencePositionLite, lane
-- INTEGER (0..7) DEFAULT 1
-- }
use Rattle.std.specs.Prelude.{[], ◌∷◌, pos}
use Rattle.rasn_below.specs.Page.{whole, automatic, optional, default, enumerated, choice, integer, sequence}
use Rattle.rasn_below.specs.Page.{sequence_of, size◌to◌, u8, ◌to◌, TypeLists}
use Rattle.its_header.specs.Areas.{area}
use Rattle.its_header.specs.Positions.{position}

abbrev pub warning : TypeLists
warning = automatic (
    optional (enumerated 3) ∷
    choice area ∷
    sequence_of (size 1 to 4) (sequence position) ∷
    default (whole (pos 1)) (integer u8 (0 to 7)) ∷ [])

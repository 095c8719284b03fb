-- ActionArea ::= CHOICE { radius INTEGER (1..1000), corner ReferencePositionLite, everywhere NULL }
use Rattle.std.specs.Prelude.{[], ◌∷◌}
use Rattle.rasn_below.specs.Page.{automatic, integer, null, sequence, u16, ◌to◌, TypeLists}
use Rattle.its_header.specs.Positions.{position}

abbrev pub area : TypeLists
area = automatic (integer u16 (1 to 1000) ∷ sequence position ∷ null ∷ [])

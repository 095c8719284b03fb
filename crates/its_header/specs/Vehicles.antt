-- VehicleState ::= SEQUENCE { heading INTEGER (0..3601), .. }: the components are in the order of the type
use Rattle.std.specs.Prelude.{[], ◌∷◌}
use Rattle.rasn_below.specs.Page.{automatic, integer, boolean, i16, i32, i8, u16, u32, u8, ◌to◌, minus◌to◌, TypeLists}

abbrev pub vehicle_state : TypeLists
vehicle_state = automatic (
    integer u16 (0 to 3601) ∷
    integer u16 (0 to 16383) ∷
    integer u8 (0 to 2) ∷
    integer u16 (1 to 1023) ∷
    integer u8 (1 to 62) ∷
    integer i16 (minus 160 to 161) ∷
    integer i32 (minus 30000 to 30001) ∷
    integer i32 (minus 32766 to 32767) ∷
    integer u8 (0 to 127) ∷
    integer i8 (minus 1 to 14) ∷
    integer i16 (minus 511 to 512) ∷
    integer i16 (minus 160 to 161) ∷
    integer i16 (minus 160 to 161) ∷
    integer u8 (0 to 7) ∷
    integer u32 (0 to 134217727) ∷
    boolean ∷ [])

-- The presence bits of a SEQUENCE: zeros that are kept for them where it is opened, and given one after another (ITU-T
-- X.691, 19.2).
use Rattle.std.specs.Prelude.{suc, ◌+◌, ◌≡◌, ◌<◌, ◌≤◌, ◌⊎◌, Bool, true, false, Result, IfErr, OnOk, OnErr}
use Rattle.per_pieces.specs.Pieces.{bit_count, with_bit}
use Rattle.per_core.specs.declared.encode_error.EncodeError.{EncodeError}
use Rattle.per_core.specs.declared.encode_error.EncodeErrorKind.TheVariants.{OutOfTurn}
use Rattle.per_write.specs.Faults.{IsError, IsAlready}
use Rattle.per_write.specs.WriterState.{WriterState}

-- the next presence bit is given; all other bits stay
pub record Marks (x : WriterState) (b : Bool) (y : WriterState) : Type 0 where
  pub begun : x.failed ≡ false
  pub within : x.scope.presences.place < bit_count x.pieces.list
  pub some : x.scope.presences.left ≡ suc y.scope.presences.left
  pub same : y ≡ record x {
    pieces = with_bit x.pieces x.scope.presences.place b;
    scope =
        record x.scope { presences = record { place = x.scope.presences.place + 1; left = y.scope.presences.left } };
  }

-- none is left to give
abbrev pub NoneLeft : WriterState → Type 0
NoneLeft x = (x.scope.presences.left ≡ 0) ⊎ (bit_count x.pieces.list ≤ x.scope.presences.place)

-- an error by which a presence bit is refused: none is left, or the encoder had been refused before
abbrev pub IsUnmarked : EncodeError → WriterState → Type 0
IsUnmarked e x = (IsError OutOfTurn e x × NoneLeft x) ⊎ (IsAlready e x × (x.failed ≡ true))

-- A call that gives the next presence bit.
pub record MarksOrNot (b : Bool) (x : WriterState) (result : Result (Unit {0}) EncodeError)
    (y : WriterState) : Type 0 where
  pub ok : OnOk result (Marks x b y)
  pub err : IfErr result (λ e. IsError OutOfTurn e x × NoneLeft x)
  pub fails : OnErr result (y.failed ≡ true)
  pub kept : y.codec ≡ x.codec

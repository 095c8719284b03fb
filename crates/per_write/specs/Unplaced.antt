-- What is written before its place is known.
use Rattle.std.specs.Prelude.{◌≡◌, true, false, Result, IfOk, IfErr, OnErr}
use Rattle.per_pieces.specs.Pieces.{Pieces, unplaced}
use Rattle.per_core.specs.declared.encode_error.EncodeError.{EncodeError}
use Rattle.per_write.specs.Faults.{IsMemory}
use Rattle.per_write.specs.WriterState.{Frame, WriterState, empty_scope}

-- what waits meanwhile: what was written before, and what is kept of the open SEQUENCE or CHOICE
pub record OutsideUnplaced : Type 0 where
  pub pieces : Pieces
  pub scope : Frame

-- what follows has no place yet, and what was there waits
pub record BeginsUnplaced (x : WriterState) (waiting : OutsideUnplaced) (y : WriterState) : Type 0 where
  pub begun : x.failed ≡ false
  pub waits : waiting ≡ record { pieces = x.pieces; scope = x.scope }
  pub same : y ≡ record x { pieces = unplaced; scope = empty_scope true }

-- A call from which on what is written has no place, or that finds no memory.
pub record BeginsUnplacedOrNot (x : WriterState) (result : Result OutsideUnplaced EncodeError)
    (y : WriterState) : Type 0 where
  pub ok : IfOk result (λ waiting. BeginsUnplaced x waiting y)
  pub err : IfErr result (λ e. IsMemory e x)
  pub fails : OnErr result (y.failed ≡ true)
  pub kept : y.codec ≡ x.codec

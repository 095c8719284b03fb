-- What is still to be written.
use Rattle.std.specs.Prelude.{◌≡◌, false}
use Rattle.per_core.specs.Writers.{Writer}
use Rattle.per_pieces.specs.Pieces.{Remains as RemainsOf}
use Rattle.per_write.specs.WriterState.{WriterState}

-- calls wrote the first of what was to be written, and so much remains
pub record Remains (x : WriterState) (all : Writer) (y : WriterState) (rest : Writer) : Type 0 where
  pub begun : x.failed ≡ false
  pub left : y.failed ≡ false
  pub same : y.codec ≡ x.codec
  pub beside : y.scope ≡ x.scope
  pub pieces : RemainsOf x.pieces all y.pieces rest

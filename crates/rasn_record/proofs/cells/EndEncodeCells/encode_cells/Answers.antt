use Rattle.rasn_record.proofs.FirstOnSide.{ends_written}
use Rattle.rasn_record.proofs.cells.EndEncodeCells.encode_cells.Goals as goal

pub returns : goal.returns
returns g c = ends_written g.S.EncodeSide.side _ _

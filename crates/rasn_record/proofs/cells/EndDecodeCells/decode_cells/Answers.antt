use Rattle.rasn_record.proofs.FirstOnSide.{ends_read}
use Rattle.rasn_record.proofs.cells.EndDecodeCells.decode_cells.Goals as goal

pub returns : goal.returns
returns g c = ends_read g.S.DecodeSide.side _ _

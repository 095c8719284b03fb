use Rattle.std.proofs.Common.{rules}
use Rattle.rasn_traits.specs.Scopes.{reads_end}
use Rattle.rasn_constructed.proofs.read.EndDecodeHoldingCells.decode_cells.Goals as goal

pub returns : goal.returns
returns g c = record { law = reads_end; fails = search rules; kept = search rules }

use Rattle.std.proofs.Common.{sym}
use Rattle.per_bits.proofs.Readers.{empty_iff}
use Rattle.per_bits.proofs.BitList.is_empty.Goals as goal

pub returns : goal.returns
returns g c = empty_iff c.len.result c.args.self.now (sym c.len.ensures)

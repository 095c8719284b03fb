use Rattle.std.proofs.Common.{arith}
use Rattle.per_read.proofs.Turns.{bit_at}
use Rattle.per_read.proofs.bitmaps.next_flag.Goals as goal

pub returns : goal.returns
returns c = rw c.get-flag.ensures (bit_at c.args.bits.now c.args.index.now (omega (arith, c.if-index-len.false, c.len.ensures)))

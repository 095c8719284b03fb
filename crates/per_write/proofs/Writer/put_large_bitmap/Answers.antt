use Rattle.std.proofs.Common.{arith}
use Rattle.per_write.proofs.BitmapsWritten.{large_bitmap}
use Rattle.per_write.proofs.Writer.put_large_bitmap.Goals as goal

pub returns : goal.returns
returns g c =
    large_bitmap c.args.self.now c.put_bit.new.self c.put_unconstrained_items.new.self c.args.bits.now c.put_unconstrained_items.result (omega arith) c.in_ok-put_bit.ensures.ok c.put_unconstrained_items.ensures

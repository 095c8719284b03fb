use Rattle.per_read.proofs.Turns.{one_bit}
use Rattle.per_read.proofs.bitmaps.take_flag.Goals as goal

pub returns-in-Ok : goal.returns-in-Ok
returns-in-Ok c = one_bit _ _ _ _ c.in-Ok.ensures.ok c.in-Ok.ensures.count c.first_bits.ensures

use Rattle.per_core.proofs.sets.set_is_read_in_order.Goals as goal
use Rattle.per_core.proofs.SetReadings

pub returns : goal.returns
returns c = λ a u ps ext adds rs xs p bits. (SetReadings.in_order a u ps ext adds rs xs p bits, SetReadings.out_of_order a u ps ext adds rs xs p bits)

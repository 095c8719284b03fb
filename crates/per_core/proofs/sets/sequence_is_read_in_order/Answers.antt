use Rattle.per_core.proofs.sets.sequence_is_read_in_order.Goals as goal
use Rattle.per_core.proofs.SetReadings

pub returns : goal.returns
returns c = SetReadings.read_in_order

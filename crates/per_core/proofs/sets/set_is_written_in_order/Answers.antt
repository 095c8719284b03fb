use Rattle.per_core.proofs.sets.set_is_written_in_order.Goals as goal
use Rattle.per_core.proofs.SetReadings

pub returns : goal.returns
returns c = SetReadings.written

use Rattle.per_core.proofs.sets.set_is_read_as_listed.Goals as goal
use Rattle.per_core.proofs.SetReadings

pub returns : goal.returns
returns c = SetReadings.read_as_listed

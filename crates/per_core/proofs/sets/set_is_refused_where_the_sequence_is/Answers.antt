use Rattle.per_core.proofs.sets.set_is_refused_where_the_sequence_is.Goals as goal
use Rattle.per_core.proofs.SetReadings

pub returns : goal.returns
returns c = SetReadings.both_refused

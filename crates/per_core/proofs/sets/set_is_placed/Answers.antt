use Rattle.per_core.proofs.sets.set_is_placed.Goals as goal
use Rattle.per_core.proofs.Placing

pub returns : goal.returns
returns c = Placing.set_placed

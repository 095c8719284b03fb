use Rattle.per_laws.proofs.levels.deeper_is_deep.Goals as goal
use Rattle.per_laws.proofs.ShallowValues

pub returns : goal.returns
returns c = ShallowValues.deeper_is_deep

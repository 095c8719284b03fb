use Rattle.per_laws.proofs.depth.unfolding_holds_every_value.Goals as goal
use Rattle.per_laws.proofs.Types

pub returns : goal.returns
returns c = Types.deep_enough

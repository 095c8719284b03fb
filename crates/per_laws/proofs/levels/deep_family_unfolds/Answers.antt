use Rattle.per_laws.proofs.levels.deep_family_unfolds.Goals as goal
use Rattle.per_laws.proofs.ShallowValues

pub returns : goal.returns
returns c = ShallowValues.deep_family_unfolds

use Rattle.per_laws.proofs.levels.meets_no_cut.Goals as goal
use Rattle.per_laws.proofs.ShallowValues

pub returns : goal.returns
returns c = ShallowValues.meets_no_cut

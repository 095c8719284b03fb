use Rattle.per_laws.proofs.levels.few_levels_are_read.Goals as goal
use Rattle.per_laws.proofs.Levelled

pub returns : goal.returns
returns c = Levelled.few_levels_are_read

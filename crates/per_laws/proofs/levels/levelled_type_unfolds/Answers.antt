use Rattle.per_laws.proofs.levels.levelled_type_unfolds.Goals as goal
use Rattle.per_laws.proofs.Levelled

pub returns : goal.returns
returns c = Levelled.levelled_type_unfolds

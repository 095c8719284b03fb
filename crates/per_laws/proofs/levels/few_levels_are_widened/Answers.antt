use Rattle.per_laws.proofs.levels.few_levels_are_widened.Goals as goal
use Rattle.per_laws.proofs.VersionsAt128Levels

pub returns : goal.returns
returns c = VersionsAt128Levels.few_levels_are_widened

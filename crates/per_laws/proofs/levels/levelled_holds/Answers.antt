use Rattle.per_laws.proofs.levels.levelled_holds.Goals as goal
use Rattle.per_laws.proofs.VersionsAt128Levels

pub returns : goal.returns
returns c = VersionsAt128Levels.levelled_holds

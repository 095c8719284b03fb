use Rattle.per_laws.proofs.levels.one_encoding.Goals as goal
use Rattle.per_laws.proofs.Depths

pub returns : goal.returns
returns c = Depths.one_encoding

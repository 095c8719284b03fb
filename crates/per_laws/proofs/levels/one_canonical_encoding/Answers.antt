use Rattle.per_laws.proofs.levels.one_canonical_encoding.Goals as goal
use Rattle.per_laws.proofs.NormalForms

pub returns : goal.returns
returns c = NormalForms.one_canonical_encoding

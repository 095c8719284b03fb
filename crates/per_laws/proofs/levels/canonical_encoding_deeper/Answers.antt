use Rattle.per_laws.proofs.levels.canonical_encoding_deeper.Goals as goal
use Rattle.per_laws.proofs.NormalForms

pub returns : goal.returns
returns c = NormalForms.canonical_encoding_deeper

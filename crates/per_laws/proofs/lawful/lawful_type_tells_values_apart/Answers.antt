use Rattle.per_laws.proofs.lawful.lawful_type_tells_values_apart.Goals as goal
use Rattle.per_laws.proofs.LawfulTrees

pub returns : goal.returns
returns c = LawfulTrees.told_apart

use Rattle.per_laws.proofs.lawful.lawful_type_has_one_normal_form.Goals as goal
use Rattle.per_laws.proofs.LawfulTrees

pub returns : goal.returns
returns c = LawfulTrees.one_normal_form

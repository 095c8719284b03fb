use Rattle.per_laws.proofs.levels.one_normal_form.Goals as goal
use Rattle.per_laws.proofs.NormalForms

pub returns : goal.returns
returns c = NormalForms.one_normal_form

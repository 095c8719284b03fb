use Rattle.per_laws.proofs.levels.deeper_normal_form.Goals as goal
use Rattle.per_laws.proofs.NormalForms

pub returns : goal.returns
returns c = NormalForms.deeper_normal_form

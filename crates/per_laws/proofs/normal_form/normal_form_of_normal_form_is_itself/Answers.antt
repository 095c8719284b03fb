use Rattle.per_laws.proofs.normal_form.normal_form_of_normal_form_is_itself.Goals as goal
use Rattle.per_laws.proofs.Normals

pub returns : goal.returns
returns c = Normals.normal_of_normal

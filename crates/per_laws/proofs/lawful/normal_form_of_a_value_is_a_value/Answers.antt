use Rattle.per_laws.proofs.lawful.normal_form_of_a_value_is_a_value.Goals as goal
use Rattle.per_laws.proofs.Valued

pub returns : goal.returns
returns c = Valued.normal_is_value

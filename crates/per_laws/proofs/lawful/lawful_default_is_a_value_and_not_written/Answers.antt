use Rattle.per_laws.proofs.lawful.lawful_default_is_a_value_and_not_written.Goals as goal
use Rattle.per_laws.proofs.Demands

pub returns : goal.returns
returns c = Demands.default_is_value

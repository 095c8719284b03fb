use Rattle.per_laws.proofs.open_types.open_type_is_a_complete_encoding.Goals as goal
use Rattle.per_laws.proofs.Opens

pub returns : goal.returns
returns c = Opens.open_is_complete

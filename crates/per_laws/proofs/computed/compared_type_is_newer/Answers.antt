use Rattle.per_laws.proofs.computed.compared_type_is_newer.Goals as goal
use Rattle.per_laws.proofs.Shallower

pub returns : goal.returns
returns c = Shallower.compared_is_newer

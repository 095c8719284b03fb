use Rattle.per_core.proofs.model.complete_encoding_is_octets.Goals as goal
use Rattle.per_core.proofs.Laws

pub returns : goal.returns
returns c = Laws.full_octets

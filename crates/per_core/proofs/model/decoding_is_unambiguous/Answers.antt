use Rattle.per_core.proofs.model.decoding_is_unambiguous.Goals as goal
use Rattle.per_core.proofs.Laws

pub returns : goal.returns
returns c = Laws.one_value

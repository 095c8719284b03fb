use Rattle.per_core.proofs.model.equal_bytes_mean_equal_values.Goals as goal
use Rattle.per_core.proofs.Laws

pub returns : goal.returns
returns c = Laws.same_bytes

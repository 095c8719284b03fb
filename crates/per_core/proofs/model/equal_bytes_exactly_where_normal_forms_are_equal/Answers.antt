use Rattle.per_core.proofs.model.equal_bytes_exactly_where_normal_forms_are_equal.Goals as goal
use Rattle.per_core.proofs.Laws

pub returns : goal.returns
returns c = Laws.same_normal_bytes

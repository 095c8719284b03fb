use Rattle.per_core.proofs.model.basic_encodings_are_prefix_free.Goals as goal
use Rattle.per_core.proofs.Laws

pub returns : goal.returns
returns c = Laws.one_spelling

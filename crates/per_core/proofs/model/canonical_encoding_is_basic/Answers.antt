use Rattle.per_core.proofs.model.canonical_encoding_is_basic.Goals as goal
use Rattle.per_core.proofs.Laws

pub returns : goal.returns
returns c = Laws.canon_is_basic

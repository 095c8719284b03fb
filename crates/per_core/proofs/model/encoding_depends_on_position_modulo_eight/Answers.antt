use Rattle.per_core.proofs.model.encoding_depends_on_position_modulo_eight.Goals as goal
use Rattle.per_core.proofs.Laws

pub returns : goal.returns
returns c = Laws.eight_writers

use Rattle.per_core.proofs.model.canonical_bytes_are_decoded_with_remainder.Goals as goal
use Rattle.per_core.proofs.Laws

pub returns : goal.returns
returns c = Laws.written_in_front

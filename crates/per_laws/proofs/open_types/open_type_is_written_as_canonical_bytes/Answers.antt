use Rattle.per_laws.proofs.open_types.open_type_is_written_as_canonical_bytes.Goals as goal
use Rattle.per_laws.proofs.Opens

pub returns : goal.returns
returns c = Opens.open_is_written

use Rattle.per_laws.proofs.versions.canonical_bytes_have_no_unknown_additions.Goals as goal
use Rattle.per_laws.proofs.Readers

pub returns : goal.returns
returns c = Readers.written_is_known

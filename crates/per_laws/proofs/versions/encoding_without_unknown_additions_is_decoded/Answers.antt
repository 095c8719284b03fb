use Rattle.per_laws.proofs.versions.encoding_without_unknown_additions_is_decoded.Goals as goal
use Rattle.per_laws.proofs.Readers

pub returns : goal.returns
returns c = Readers.known_is_read

use Rattle.per_laws.proofs.additions.complete_encoding_is_read_whatever_is_unknown.Goals as goal
use Rattle.per_laws.proofs.Skipped

pub returns : goal.returns
returns c = Skipped.complete_is_read

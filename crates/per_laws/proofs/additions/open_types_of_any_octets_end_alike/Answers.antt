use Rattle.per_laws.proofs.additions.open_types_of_any_octets_end_alike.Goals as goal
use Rattle.per_laws.proofs.Skipped

pub returns : goal.returns
returns c = Skipped.end_alike

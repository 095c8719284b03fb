use Rattle.per_laws.proofs.additions.unknown_additions_change_nothing.Goals as goal
use Rattle.per_laws.proofs.Skipped

pub returns : goal.returns
returns c = Skipped.unknown_changes_nothing

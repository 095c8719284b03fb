use Rattle.per_laws.proofs.additions.unknown_additions_stand_after_all_else.Goals as goal
use Rattle.per_laws.proofs.Skipped

pub returns : goal.returns
returns c = Skipped.unknown_after

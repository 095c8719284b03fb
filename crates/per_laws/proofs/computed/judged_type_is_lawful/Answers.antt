use Rattle.per_laws.proofs.computed.judged_type_is_lawful.Goals as goal
use Rattle.per_laws.proofs.Judged

pub returns : goal.returns
returns c = Judged.judged_type

use Rattle.per_laws.proofs.lawful.lawful_set_is_written_the_same_however_listed.Goals as goal
use Rattle.per_laws.proofs.Listed

pub returns : goal.returns
returns c = Listed.same_record

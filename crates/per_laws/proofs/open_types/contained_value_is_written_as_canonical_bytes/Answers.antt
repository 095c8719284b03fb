use Rattle.per_laws.proofs.open_types.contained_value_is_written_as_canonical_bytes.Goals as goal
use Rattle.per_laws.proofs.Opens

pub returns-clause-written : goal.returns-clause-written
returns-clause-written c = Opens.contained_is_written

pub returns-clause-refused : goal.returns-clause-refused
returns-clause-refused c = Opens.contained_is_refused

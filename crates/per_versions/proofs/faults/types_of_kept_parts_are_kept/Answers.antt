use Rattle.per_versions.proofs.Families.{choice_kept, list_kept, record_kept}
use Rattle.per_versions.proofs.faults.types_of_kept_parts_are_kept.Goals as goal

pub returns-clause-record_of : goal.returns-clause-record_of
returns-clause-record_of c = record_kept

pub returns-clause-list_of : goal.returns-clause-list_of
returns-clause-list_of c = list_kept

pub returns-clause-choice_of : goal.returns-clause-choice_of
returns-clause-choice_of c = choice_kept

use Rattle.per_samples_sets.proofs.Written.{beside_one, nothing_there, one_inside}
use Rattle.per_samples_sets.proofs.date_rows.a_date_stands_after_the_bits_of_its_level.Goals as goal

pub returns-clause-nothing : goal.returns-clause-nothing
returns-clause-nothing c = record { at = nothing_there }

pub returns-clause-inside : goal.returns-clause-inside
returns-clause-inside c a y m d = record { at = one_inside }

pub returns-clause-beside : goal.returns-clause-beside
returns-clause-beside c a y m d = record { at = beside_one }

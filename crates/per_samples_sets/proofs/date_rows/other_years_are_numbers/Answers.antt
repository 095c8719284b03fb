use Rattle.per_core.specs.Rows.{unaligned}
use Rattle.per_samples_sets.proofs.Written.{at_depths, other}
use Rattle.per_samples_sets.proofs.date_rows.other_years_are_numbers.Goals as goal

pub returns : goal.returns
returns c y m d = record { at = at_depths unaligned _ _ other }

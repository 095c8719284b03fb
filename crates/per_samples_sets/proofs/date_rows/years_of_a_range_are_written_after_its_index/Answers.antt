use Rattle.per_core.specs.Rows.{aligned, unaligned}
use Rattle.per_samples_sets.proofs.Written.{aligned_later, at_depths, later, near}
use Rattle.per_samples_sets.proofs.date_rows.years_of_a_range_are_written_after_its_index.Goals as goal

pub returns-clause-near : goal.returns-clause-near
returns-clause-near c y m d = record { at = at_depths unaligned _ _ near }

pub returns-clause-later : goal.returns-clause-later
returns-clause-later c y m d = record { at = at_depths unaligned _ _ later }

pub returns-clause-aligned_later : goal.returns-clause-aligned_later
returns-clause-aligned_later c y m d = record { at = at_depths aligned _ _ aligned_later }

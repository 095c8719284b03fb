use Rattle.per_samples_b.proofs.LongBitmaps.{aligned_row, unaligned_row}
use Rattle.per_samples_b.proofs.many_rows.long_bitmaps_have_a_length.Goals as goal

pub returns-clause-unaligned : goal.returns-clause-unaligned
returns-clause-unaligned c = record { at = unaligned_row }

pub returns-clause-aligned : goal.returns-clause-aligned
returns-clause-aligned c = record { at = aligned_row }

use Rattle.std.proofs.Common.{◌≡◌}
use Rattle.per_read.specs.ReaderState.{settings_of}
use Rattle.per_read.proofs.Skipped.{SkippedSoFar}
use Rattle.per_read.proofs.bitmaps.skip_unknown.Given as goal

abbrev pub invariant-loop-is_present : goal.invariant-loop-is_present
invariant-loop-is_present l =
    (goal.iterator-loop-is_present).can_next l.is_present-iterator
    × (goal.iterator-loop-is_present).is_finite l.is_present-iterator
    × SkippedSoFar (settings_of l.initial.reader) l.initial.is_present-iterator l.is_present-iterator l.initial.reader.bits l.reader.bits
    × (l.reader.options ≡ l.initial.reader.options)

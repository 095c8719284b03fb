use Rattle.std.proofs.Common.{◌≡◌, length}
use Rattle.per_read.specs.ReaderState.{settings_of}
use Rattle.per_read.proofs.FragmentItems.{ItemsSoFar}
use Rattle.per_read.proofs.Pieces.{Anything}
use Rattle.per_read.proofs.open_types.skip_open.Given as goal

abbrev pub invariant-loop-length : goal.invariant-loop-length
invariant-loop-length l =
    ItemsSoFar Anything (settings_of l.initial.reader) 8 l.initial.reader.bits l.reader.bits tt tt l.count × (l.reader.options ≡ l.initial.reader.options)

abbrev pub decreases-loop-length : goal.decreases-loop-length
decreases-loop-length l = length l.reader.bits

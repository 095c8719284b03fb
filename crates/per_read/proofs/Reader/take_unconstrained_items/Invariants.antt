use Rattle.std.proofs.Common.{◌≡◌, ◌≤◌, length}
use Rattle.per_core.specs.Counts.{bits_of}
use Rattle.per_read.specs.ReaderState.{settings_of}
use Rattle.per_read.proofs.FragmentItems.{ItemsSoFar}
use Rattle.per_read.proofs.Reader.take_unconstrained_items.Given as goal

abbrev pub invariant-loop-length : goal.invariant-loop-length
invariant-loop-length g l =
    ItemsSoFar g.C.Collector.holds (settings_of l.initial.self) (bits_of (g.C.Collector.item l.initial.items)) l.initial.self.bits l.self.bits l.initial.items l.items l.count
    × (l.self.options ≡ l.initial.self.options)
    × (g.C.Collector.item l.items ≡ g.C.Collector.item l.initial.items)
    × (g.C.Collector.count l.items ≤ l.count)

abbrev pub decreases-loop-length : goal.decreases-loop-length
decreases-loop-length g l = length l.self.bits

use Rattle.per_core.specs.Canon.{char_writers}
use Rattle.per_core.specs.Writers.{just, one_by_one, ◌▹◌}
use Rattle.std.specs.Prelude.{slice_range}
use Rattle.per_write.specs.Unwritten.{Remains}
use Rattle.per_enc.proofs.times.TextItemsToWrite.put.Given as goal

abbrev pub invariant-loop-index : goal.invariant-loop-index
invariant-loop-index g l =
    let ws = char_writers l.self.alphabet.variant l.self.alphabet.characters l.self.characters.now in
    Remains l.fn.writer (one_by_one (slice_range ws l.start l.end)) l.writer (just l.gathered ▹ one_by_one (slice_range ws l.index l.end))

use Rattle.std.proofs.Common.{◌≤◌, ◌-◌}
use Rattle.per_core.specs.Canon.{char_writers}
use Rattle.per_core.specs.Writers.{one_by_one}
use Rattle.std.specs.Prelude.{slice_range}
use Rattle.per_write.specs.Unwritten.{Remains}
use Rattle.per_write.proofs.items.CharactersItemsToWrite.put.Given as goal

abbrev pub invariant-loop-at : goal.invariant-loop-at
invariant-loop-at g l =
    let ws = char_writers l.self.alphabet.variant l.self.alphabet.characters (g.S.StaticPermittedAlphabet.characters l.self.string.now) in
    record {
      written : Remains l.fn.writer (one_by_one (slice_range ws l.start l.end)) l.writer (one_by_one (slice_range ws l.at l.end));
      within : l.at ≤ l.end;
    }

abbrev pub decreases-loop-at : goal.decreases-loop-at
decreases-loop-at g l = l.end - l.at

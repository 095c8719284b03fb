use Rattle.std.specs.Prelude.{◌≡◌, ◌+◌, length}
use Rattle.schema_file.proofs.load.read_kinds.Given as goal

abbrev pub invariant-loop-index : goal.invariant-loop-index
invariant-loop-index l = l.first + length l.kinds.items ≡ l.index

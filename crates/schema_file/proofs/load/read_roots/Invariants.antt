use Rattle.std.specs.Prelude.{◌<◌}
use Rattle.std.specs.List.{All}
use Rattle.schema_file.proofs.load.read_roots.Given as goal

abbrev pub invariant-loop-index : goal.invariant-loop-index
invariant-loop-index l = All (λ name. name.place < l.fn.counts.types) l.names.items

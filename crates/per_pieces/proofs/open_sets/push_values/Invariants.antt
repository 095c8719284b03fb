use Rattle.std.proofs.Common.{drop}
use Rattle.per_core.specs.Writers.{one_by_one}
use Rattle.per_pieces.specs.Pieces.{Remains}
use Rattle.per_pieces.specs.OpenSets.{in_order, value_writers}
use Rattle.per_pieces.proofs.open_sets.push_values.Given as goal

-- what the fields left name remains to be written
abbrev pub invariant-loop-field : goal.invariant-loop-field
invariant-loop-field g l =
    let ws = in_order l.fields (value_writers l.components) in
    Remains l.fn.pieces (one_by_one ws) l.pieces (one_by_one (drop l.field-index ws))

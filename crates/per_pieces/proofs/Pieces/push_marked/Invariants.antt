use Rattle.per_pieces.proofs.Marking.{Walks}
use Rattle.per_pieces.proofs.Pieces.push_marked.Given as goal

abbrev pub invariant-loop-index : goal.invariant-loop-index
invariant-loop-index g l = Walks l.fn.self l.self l.marks l.bits l.done l.index l.rest.bits

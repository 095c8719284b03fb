use Rattle.per_pieces.proofs.Marking.{settled_unmarked}
use Rattle.per_pieces.proofs.with_padding.Goals as goal

pub returns-then-is_empty : goal.returns-then-is_empty
returns-then-is_empty g c = settled_unmarked c.args.marks.now c.args.bits c.if-is_empty.ensures

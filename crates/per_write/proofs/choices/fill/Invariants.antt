use Rattle.std.proofs.Common.{◌≡◌, ◌+◌, ◌≤◌}
use Rattle.per_write.proofs.Filling.{AreFilled}
use Rattle.per_write.proofs.choices.fill.Given as goal

abbrev pub invariant-loop-left : goal.invariant-loop-left
invariant-loop-left g l = record {
  filled : AreFilled l.fn.place l.width l.number l.fn.pieces.list l.left l.next l.pieces.list;
  same : l.pieces.placed ≡ l.fn.pieces.placed;
  few : l.left ≤ l.width;
  there : l.next + l.left ≡ l.fn.place + l.width;
}

abbrev pub decreases-loop-left : goal.decreases-loop-left
decreases-loop-left g l = l.left

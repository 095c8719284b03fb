use Rattle.std.proofs.Common.{◌≡◌, false, replicate, ◌-◌, ◌≤◌}
use Rattle.per_pieces.specs.Pieces.{with_bits}
use Rattle.per_pieces.proofs.Pieces.push_many_zeros.Given as goal

abbrev pub invariant-loop-left : goal.invariant-loop-left
invariant-loop-left g l = record {
  written : l.self ≡ with_bits l.fn.self (replicate (l.count - l.left) false);
  within : l.left ≤ l.count;
}

abbrev pub decreases-loop-left : goal.decreases-loop-left
decreases-loop-left g l = l.left

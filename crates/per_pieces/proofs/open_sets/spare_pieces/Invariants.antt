use Rattle.std.proofs.Common.{◌≡◌, ◌-◌, ◌≤◌, length, replicate}
use Rattle.per_pieces.specs.Pieces.{unplaced}
use Rattle.per_pieces.proofs.open_sets.spare_pieces.Given as goal

-- so many were made
abbrev pub invariant-loop-spare : goal.invariant-loop-spare
invariant-loop-spare g l = record {
  none : l.spare.items ≡ replicate (length l.spare.items) unplaced;
  within : length l.spare.items ≤ l.count;
}

abbrev pub decreases-loop-spare : goal.decreases-loop-spare
decreases-loop-spare g l = l.count - length l.spare.items

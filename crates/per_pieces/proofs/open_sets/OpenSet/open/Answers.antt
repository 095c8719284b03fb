use Rattle.per_pieces.proofs.Closing.{has_memory}
use Rattle.per_pieces.proofs.open_sets.OpenSet.open.Goals as goal

pub invariant_of-result : goal.invariant_of-result
invariant_of-result g c = has_memory c.args.count _ _ _ c.in_ok-done.ensures.items c.in_ok-done.ensures.capacity c.in_ok-spare.ensures

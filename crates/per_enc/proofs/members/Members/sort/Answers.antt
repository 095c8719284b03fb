use Rattle.std.proofs.Common.{rules}
use Rattle.per_enc.proofs.SortedMembers.{sorts_members}
use Rattle.per_enc.proofs.members.Members.sort.Goals as goal

pub returns : goal.returns
returns g c = rw (← c.self.view_is) ((sorts_members _ _ c.self.invariant c.in_ok-sort_by.ensures.sorted c.in_ok-sort_by.ensures.stable (λ a r q k. search rules)).1)

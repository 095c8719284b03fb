use Rattle.std.proofs.Common.{rules}
use Rattle.per_enc.proofs.SortedMembers.{keyed_more}
use Rattle.per_enc.proofs.members.Members.push.Goals as goal

pub invariant_of-self-2 : goal.invariant_of-self-2
invariant_of-self-2 g c = rw c.in_ok-push.ensures.items (keyed_more _ _ c.self.invariant (search rules))

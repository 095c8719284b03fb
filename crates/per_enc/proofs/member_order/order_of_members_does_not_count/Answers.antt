use Rattle.std.proofs.Common.{ap}
use Rattle.per_enc.proofs.MemberOrder.{bag_canon}
use Rattle.per_enc.proofs.member_order.order_of_members_does_not_count.Goals as goal

pub returns : goal.returns
returns c a e size mark vs p k = ap (λ w. w p) (bag_canon a e size mark vs k)

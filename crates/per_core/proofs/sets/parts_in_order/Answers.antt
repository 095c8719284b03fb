use Rattle.per_core.proofs.sets.parts_in_order.Goals as goal
use Rattle.rasn_schema.proofs.Canonised
use Rattle.per_core.proofs.SetOrders

pub returns-clause-writes : goal.returns-clause-writes
returns-clause-writes c = SetOrders.members_ordered

pub returns-clause-named : goal.returns-clause-named
returns-clause-named c = SetOrders.tags_ordered

pub returns-clause-counted : goal.returns-clause-counted
returns-clause-counted c = Canonised.count_ordered

pub returns-clause-flagged : goal.returns-clause-flagged
returns-clause-flagged c = Canonised.bits_ordered

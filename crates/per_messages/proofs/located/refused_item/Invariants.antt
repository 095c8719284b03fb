use Rattle.std.proofs.Common.{◌≡◌, None}
use Rattle.json.specs.Value.{items_view}
use Rattle.per_messages.proofs.Paths.{ItemsAreToldTo}
use Rattle.per_messages.proofs.located.refused_item.Given as goal

-- where any reason is asked for, the items up to an index tell values
abbrev pub invariant-loop-index : goal.invariant-loop-index
invariant-loop-index l = l.reason ≡ None → ItemsAreToldTo l.kinds l.levels l.of (items_view l.items) l.index

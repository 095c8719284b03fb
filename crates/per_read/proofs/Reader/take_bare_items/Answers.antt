use Rattle.std.proofs.Common.{rules}
use Rattle.per_read.proofs.OneByOne.{items_within}
use Rattle.per_read.proofs.Reader.take_bare_items.Goals as goal

pub returns : goal.returns
returns g c = record { ok = items_within c.in_ok-push_items.ensures.ok (search rules); same = c.in_ok-push_items.ensures.item; few = c.in_ok-push_items.ensures.count; err = tt; kept = search rules }

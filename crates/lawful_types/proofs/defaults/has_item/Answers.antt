use Rattle.std.proofs.Common.{ap, ◌∙◌, length, nat_lt}
use Rattle.lawful_types.proofs.Values.{after_counted}
use Rattle.lawful_types.proofs.defaults.has_item.Goals as goal

pub returns-in-Added : goal.returns-in-Added
returns-in-Added c = rw c.in-Added.is (ap (nat_lt c.in-Added.index) (ap length c.behind.ensures ∙ after_counted c.args.items.now.addeds))

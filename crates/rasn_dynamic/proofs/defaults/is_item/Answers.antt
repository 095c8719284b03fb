use Rattle.rasn_dynamic.proofs.SameDefaults.{no_item_of}
use Rattle.rasn_dynamic.proofs.defaults.is_item.Goals as goal

pub returns-in-Some : goal.returns-in-Some
returns-in-Some c = rw c.in-Some.ensures c.are_same_place.ensures

pub returns-in-None : goal.returns-in-None
returns-in-None c = no_item_of _ c.args.told c.in-None.ensures

use Rattle.lawful_types.proofs.SameTrees.{other_item}
use Rattle.lawful_types.proofs.same_defaults.is_item.Goals as goal

pub returns-in-Item : goal.returns-in-Item
returns-in-Item c = rw c.in-Item.is c.are_same_place.ensures

pub returns-in_default : goal.returns-in_default
returns-in_default c = other_item c.args.own c.args.told.now c.in_default.not-Item

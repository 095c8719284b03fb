use Rattle.std.proofs.Common.{sym, ◌∙◌}
use Rattle.rasn_dynamic.specs.Types.{counts_of}
use Rattle.lawful_types.proofs.Values.{no_item, this_item}
use Rattle.lawful_types.proofs.defaults.is_item_of.Goals as goal

pub returns-in-Item : goal.returns-in-Item
returns-in-Item c = rw c.in-Item.is (c.has_item.ensures ∙ this_item (counts_of c.args.items.now) c.in-Item.place)

pub returns-in_default : goal.returns-in_default
returns-in_default c = sym (no_item (counts_of c.args.items.now) c.args.default.now c.in_default.not-Item)

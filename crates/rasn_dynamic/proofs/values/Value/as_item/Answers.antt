use Rattle.std.proofs.Common.{◌≡◌, true, false}
use Rattle.rasn_dynamic.proofs.Trees.{not_item}
use Rattle.rasn_dynamic.proofs.values.Value.as_item.Goals as goal

pub returns-in_default : goal.returns-in_default
returns-in_default c = not_item c.args.self.now c.in_default.not-Item

use Rattle.std.proofs.Common.{◌≡◌, true, false}
use Rattle.rasn_dynamic.proofs.Trees.{not_date}
use Rattle.rasn_dynamic.proofs.values.Value.as_date.Goals as goal

pub returns-in_default : goal.returns-in_default
returns-in_default c = not_date c.args.self.now c.in_default.not-Date

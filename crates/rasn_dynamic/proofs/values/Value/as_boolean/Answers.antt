use Rattle.std.proofs.Common.{◌≡◌, true, false}
use Rattle.rasn_dynamic.proofs.Trees.{not_truth}
use Rattle.rasn_dynamic.proofs.values.Value.as_boolean.Goals as goal

pub returns-in_default : goal.returns-in_default
returns-in_default c = not_truth c.args.self.now c.in_default.not-Boolean

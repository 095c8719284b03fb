use Rattle.rasn_dynamic.proofs.SameDefaults.{same_truth}
use Rattle.lawful_types.proofs.SameTrees.{other_truth}
use Rattle.lawful_types.proofs.same_defaults.is_truth.Goals as goal

pub returns-in-Boolean : goal.returns-in-Boolean
returns-in-Boolean c = rw c.in-Boolean.is (same_truth c.args.own c.in-Boolean.other)

pub returns-in_default : goal.returns-in_default
returns-in_default c = other_truth c.args.own c.args.told.now c.in_default.not-Boolean

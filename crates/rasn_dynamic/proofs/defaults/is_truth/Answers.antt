use Rattle.rasn_dynamic.proofs.SameDefaults.{no_truth, same_truth}
use Rattle.rasn_dynamic.proofs.defaults.is_truth.Goals as goal

pub returns-in-Some : goal.returns-in-Some
returns-in-Some c = rw c.in-Some.ensures (same_truth c.in-Some.own c.args.told)

pub returns-in-None : goal.returns-in-None
returns-in-None c = no_truth _ c.args.told c.in-None.ensures

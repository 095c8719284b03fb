use Rattle.rasn_strings.proofs.Own.{own_units}
use Rattle.rasn_strings.proofs.strings.all_are_own.Goals as goal

pub returns : goal.returns
returns c = own_units c.args.units.now c.type_inv.units

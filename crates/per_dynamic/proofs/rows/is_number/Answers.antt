use Rattle.std.proofs.Common.{◌∙◌}
use Rattle.rasn_dynamic.proofs.SameDefaults.{same_whole}
use Rattle.per_dynamic.proofs.Numbers.{no_number}
use Rattle.per_dynamic.proofs.rows.is_number.Goals as goal

pub returns-in-Integer : goal.returns-in-Integer
returns-in-Integer c = rw c.in-Integer.is (c.eq.ensures ∙ same_whole c.args.number.now c.in-Integer.own)

pub returns-in_default : goal.returns-in_default
returns-in_default c = no_number c.args.told.now c.args.number.now c.in_default.not-Integer

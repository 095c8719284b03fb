use Rattle.std.proofs.Common.{◌∙◌}
use Rattle.rasn_dynamic.proofs.SameDefaults.{same_whole}
use Rattle.lawful_types.proofs.SameTrees.{other_number}
use Rattle.lawful_types.proofs.same_defaults.is_number.Goals as goal

pub returns-in-Integer : goal.returns-in-Integer
returns-in-Integer c = rw c.in-Integer.is (c.eq.ensures ∙ same_whole c.args.own.now c.in-Integer.other)

pub returns-in_default : goal.returns-in_default
returns-in_default c = other_number c.args.own.now c.args.told.now c.in_default.not-Integer

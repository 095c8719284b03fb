use Rattle.std.proofs.Common.{sym}
use Rattle.rasn_types.specs.Values.{nothing}
use Rattle.rasn_dynamic.proofs.SameDefaults.{same_self}
use Rattle.lawful_types.proofs.SameTrees.{other_null}
use Rattle.lawful_types.proofs.same_defaults.is_null.Goals as goal

pub returns-in-Null : goal.returns-in-Null
returns-in-Null c = rw c.in-Null.is (sym (same_self nothing))

pub returns-in_default : goal.returns-in_default
returns-in_default c = other_null c.args.told.now c.in_default.not-Null

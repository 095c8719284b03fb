use Rattle.std.proofs.Common.{[], sym}
use Rattle.rasn_schema.specs.Structures.{list_value}
use Rattle.rasn_dynamic.proofs.SameDefaults.{same_self}
use Rattle.lawful_types.proofs.SameTrees.{other_list}
use Rattle.lawful_types.proofs.same_defaults.is_empty.Goals as goal

pub returns-in-NoElements : goal.returns-in-NoElements
returns-in-NoElements c = rw c.in-NoElements.is (sym (same_self (list_value [])))

pub returns-in_default : goal.returns-in_default
returns-in_default c = other_list c.args.told.now c.in_default.not-NoElements

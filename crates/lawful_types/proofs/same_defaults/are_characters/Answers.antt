use Rattle.std.proofs.Common.{◌∙◌}
use Rattle.rasn_dynamic.proofs.SameDefaults.{same_characters}
use Rattle.lawful_types.proofs.SameTrees.{other_characters}
use Rattle.lawful_types.proofs.same_defaults.are_characters.Goals as goal

pub returns-in-Characters : goal.returns-in-Characters
returns-in-Characters c = rw c.in-Characters.is (c.eq.ensures ∙ same_characters c.args.own.now c.in-Characters.other)

pub returns-in_default : goal.returns-in_default
returns-in_default c = other_characters c.args.own.now c.args.told.now c.in_default.not-Characters

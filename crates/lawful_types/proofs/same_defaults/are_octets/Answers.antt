use Rattle.std.proofs.Common.{◌∙◌}
use Rattle.rasn_dynamic.proofs.SameDefaults.{same_octets}
use Rattle.lawful_types.proofs.SameTrees.{other_octets}
use Rattle.lawful_types.proofs.same_defaults.are_octets.Goals as goal

pub returns-in-Octets : goal.returns-in-Octets
returns-in-Octets c = rw c.in-Octets.is (c.eq.ensures ∙ same_octets c.args.own.now c.in-Octets.other)

pub returns-in_default : goal.returns-in_default
returns-in_default c = other_octets c.args.own.now c.args.told.now c.in_default.not-Octets

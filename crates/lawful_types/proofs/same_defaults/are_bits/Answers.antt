use Rattle.std.proofs.Common.{◌∙◌}
use Rattle.rasn_dynamic.proofs.SameDefaults.{same_bits}
use Rattle.lawful_types.proofs.SameTrees.{other_bits}
use Rattle.lawful_types.proofs.same_defaults.are_bits.Goals as goal

pub returns-in-Bits : goal.returns-in-Bits
returns-in-Bits c = rw c.in-Bits.is (c.eq.ensures ∙ same_bits c.args.own.now c.in-Bits.other)

pub returns-in_default : goal.returns-in_default
returns-in_default c = other_bits c.args.own.now c.args.told.now c.in_default.not-Bits

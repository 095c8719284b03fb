use Rattle.std.proofs.Common.{◌∙◌}
use Rattle.rasn_types.specs.Bits.{filled_up, trimmed}
use Rattle.rasn_dynamic.proofs.NamedBits.{no_told}
use Rattle.rasn_dynamic.proofs.SameDefaults.{same_bits}
use Rattle.rasn_dynamic.proofs.defaults.are_told.Goals as goal

pub returns-in-Bits : goal.returns-in-Bits
returns-in-Bits c = rw c.in-Bits.is (c.are_filled_up.ensures ∙ same_bits (filled_up c.args.least (trimmed c.args.own.now)) _)

pub returns-in_default : goal.returns-in_default
returns-in_default c = no_told _ _ c.in_default.not-Bits

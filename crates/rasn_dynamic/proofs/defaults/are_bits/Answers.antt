use Rattle.std.proofs.Common.{◌∙◌}
use Rattle.rasn_dynamic.proofs.SameDefaults.{no_bits, same_bits}
use Rattle.rasn_dynamic.proofs.defaults.are_bits.Goals as goal

pub returns-in-Some : goal.returns-in-Some
returns-in-Some c = rw c.in-Some.ensures (c.eq.ensures ∙ same_bits c.in-Some.own.now c.args.told.now)

pub returns-in-None : goal.returns-in-None
returns-in-None c = no_bits _ c.args.told.now c.in-None.ensures

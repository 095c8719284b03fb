use Rattle.std.proofs.Common.{◌≡◌, true, false}
use Rattle.rasn_dynamic.proofs.Trees.{not_bits}
use Rattle.rasn_dynamic.proofs.values.Value.as_bits.Goals as goal

pub returns-in_default : goal.returns-in_default
returns-in_default c = not_bits c.args.self.now c.in_default.not-Bits

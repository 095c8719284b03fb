use Rattle.lawful_types.proofs.Values.{named_bits, no_named}
use Rattle.lawful_types.proofs.defaults.are_named_bits.Goals as goal

pub returns-in-Bits : goal.returns-in-Bits
returns-in-Bits c = rw c.in-Bits.is (named_bits c.args.size.now _ _ c.bits_are_countable.ensures c.are_normal.ensures)

pub returns-in_default : goal.returns-in_default
returns-in_default c = no_named c.args.size.now c.args.default.now c.in_default.not-Bits

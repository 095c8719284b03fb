use Rattle.lawful_types.proofs.Values.{any_bits}
use Rattle.lawful_types.proofs.defaults.bits_are_countable.Goals as goal

pub returns : goal.returns
returns c = any_bits c.args.bits.now (rw c.len.ensures at c.len.type_inv)

use Rattle.per_bits.proofs.Readers.{bits_are, left_is, empty_iff}
use Rattle.per_bits.proofs.BitReader.is_empty.Goals as goal

pub returns : goal.returns
returns c = empty_iff c.self.inside.len c.args.self.now.bits (left_is c.self.inside.skip c.self.inside.len c.self.inside.octets.now c.args.self.now.bits (bits_are c.self.view_is) c.self.invariant)

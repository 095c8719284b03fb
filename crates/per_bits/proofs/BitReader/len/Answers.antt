use Rattle.std.proofs.Common.{sym}
use Rattle.per_bits.proofs.Readers.{bits_are, left_is}
use Rattle.per_bits.proofs.BitReader.len.Goals as goal

pub returns : goal.returns
returns c = sym (left_is c.self.inside.skip c.self.inside.len c.self.inside.octets.now c.args.self.now.bits (bits_are c.self.view_is) c.self.invariant)

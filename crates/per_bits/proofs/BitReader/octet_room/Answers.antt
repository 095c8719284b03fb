use Rattle.std.proofs.Common.{◌≡◌, length, arith}
use Rattle.per_bits.proofs.Readers.{bits_are, left_is}
use Rattle.per_bits.proofs.BitReader.octet_room.Goals as goal

pub returns : goal.returns
returns c = let l : length c.args.self.now.bits ≡ c.self.inside.len = left_is c.self.inside.skip c.self.inside.len c.self.inside.octets.now c.args.self.now.bits (bits_are c.self.view_is) c.self.invariant in omega arith

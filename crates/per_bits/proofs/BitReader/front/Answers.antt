use Rattle.std.proofs.Common.{◌/◌, ◌^◌}
use Rattle.rasn_types.specs.Bits.{to_bits}
use Rattle.per_bits.proofs.Readers.{bits_are, front_left}
use Rattle.per_bits.proofs.BitReader.front.Goals as goal

pub returns : goal.returns
returns c = front_left c.self.inside.skip c.self.inside.len c.self.inside.octets.now (to_bits 56 (c.read_front.result / 2 ^ 8)) c.args.self.now.bits (bits_are c.self.view_is) c.self.invariant c.read_front.ensures

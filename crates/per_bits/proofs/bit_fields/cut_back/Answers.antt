use Rattle.std.proofs.Common.{◌-◌, ◌/◌, arith}
use Rattle.per_bits.proofs.Readers.{room_there}
use Rattle.per_bits.proofs.Room.{cut}
use Rattle.per_bits.proofs.bit_fields.cut_back.Goals as goal

pub overflow_sub-len : goal.overflow_sub-len
overflow_sub-len g c = omega (arith, room_there c.requires)

pub returns-clause-bits : goal.returns-clause-bits
returns-clause-bits g c = cut c.args.spare (c.len.result - c.args.spare / 8) c.args.octets.now.items c.truncate.new.self.items c.requires (omega arith) c.truncate.ensures.items

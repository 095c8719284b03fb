use Rattle.std.proofs.Common.{◌+◌, refl, arith}
use Rattle.per_bits.proofs.Room.{zeros_added}
use Rattle.per_bits.proofs.bit_fields.with_room.Goals as goal

pub returns-clause-ok : goal.returns-clause-ok
returns-clause-ok g c = zeros_added c.args.spare (c.args.spare + 320) 40 c.args.octets.now.items c.add_zeros.new.octets.items c.requires (omega arith) refl refl c.in_ok-add_zeros.ensures.ok

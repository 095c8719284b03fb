use Rattle.rasn_types.proofs.Bits.{length-unpack}
use Rattle.per_dynamic.proofs.located.refused_at.Goals as goal

pub returns-clause-bits : goal.returns-clause-bits
returns-clause-bits c = rw (c.len-bits.ensures, c.from_octets.ensures.bits) (length-unpack c.args.octets.now)

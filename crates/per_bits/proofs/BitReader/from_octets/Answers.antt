use Rattle.per_bits.proofs.Readers.{all_left}
use Rattle.per_bits.proofs.BitReader.from_octets.Goals as goal

pub returns-clause-bits : goal.returns-clause-bits
returns-clause-bits c = all_left c.args.octets.now

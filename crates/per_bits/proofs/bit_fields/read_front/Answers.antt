use Rattle.std.proofs.Common.{refl}
use Rattle.per_bits.proofs.Joins.{front_is}
use Rattle.per_bits.proofs.bit_fields.read_front.Goals as goal

pub returns : goal.returns
returns c = front_is c.args.skip c.load_word-word.result _ c.args.octets.now c.requires c.load_word-word.ensures refl

use Rattle.per_bits.proofs.Lanes.{all_parted}
use Rattle.per_bits.proofs.bit_fields.spread.Goals as goal

pub returns : goal.returns
returns c = all_parted c.args.width c.args.word c.parted-fours.result c.parted-pairs.result c.parted.result c.parted-fours.ensures c.parted-pairs.ensures c.parted.ensures

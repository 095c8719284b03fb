use Rattle.std.proofs.Common.{◌+◌, ap, refl, take}
use Rattle.per_bits.proofs.Joins.{moved_below, part_is}
use Rattle.per_bits.proofs.bit_fields.read_field.Goals as goal

pub returns-clause-bits : goal.returns-clause-bits
returns-clause-bits c = part_is c.args.skip c.args.count c.load_word.result _ c.args.octets.now c.requires.within.few c.requires.few c.requires.within.enough (ap (λ bs. take (c.args.skip + c.args.count) bs) c.load_word.ensures) refl

pub returns-clause-below : goal.returns-clause-below
returns-clause-below c = moved_below c.args.skip c.args.count c.load_word.result _ c.requires.within.few c.requires.few refl

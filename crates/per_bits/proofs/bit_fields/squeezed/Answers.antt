use Rattle.std.proofs.Common.{subst, sym}
use Rattle.per_bits.specs.Lanes.{AreNarrow}
use Rattle.per_bits.proofs.Lanes.{all_joined, kept_narrow, octets_kept}
use Rattle.per_bits.proofs.bit_fields.squeezed.Goals as goal

pub joined-pairs-requires-clause-narrow : goal.joined-pairs-requires-clause-narrow
joined-pairs-requires-clause-narrow c = subst (AreNarrow c.args.width 8 8) (sym (octets_kept c.args.width c.args.word c.requires)) (kept_narrow c.args.width 8 8 c.args.word c.requires)

pub returns-clause-bits : goal.returns-clause-bits
returns-clause-bits c = all_joined c.args.width c.args.word _ c.joined-pairs.result c.joined-fours.result c.joined.result c.requires (octets_kept c.args.width c.args.word c.requires) c.joined-pairs.ensures c.joined-fours.ensures c.joined.ensures

use Rattle.std.proofs.Common.{◌∙◌, ◌*◌, arith}
use Rattle.std.proofs.lemmas.List.{take_all}
use Rattle.per_read.proofs.items.octets_of.Goals as goal

pub returns : goal.returns
returns c = c.spread_bits.ensures.bits ∙ take_all (c.args.width * c.args.many) c.args.bits.bits (omega (arith, c.requires.bits))

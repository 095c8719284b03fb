use Rattle.rasn_dynamic.proofs.NamedBits.{bits_normal}
use Rattle.rasn_dynamic.proofs.defaults.are_normal.Goals as goal

pub returns : goal.returns
returns c = bits_normal c.args.size.now c.least_count.result c.args.own.now _ c.least_count.ensures c.least_count.type_inv c.are_filled_up.ensures

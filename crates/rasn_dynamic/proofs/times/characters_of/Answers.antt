use Rattle.std.proofs.Common.{arith}
use Rattle.rasn_strings.proofs.Own.{own_units}
use Rattle.rasn_dynamic.proofs.times.characters_of.Goals as goal

pub push_octets-requires : goal.push_octets-requires
push_octets-requires c = own_units c.args.octets.now (λ i. record { fits = let h = (c.type_inv.octets i).fits in omega (arith, h) })

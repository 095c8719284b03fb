use Rattle.rasn_codec.proofs.Named.{same_named}
use Rattle.rasn_codec.proofs.default_bits.BitsDefaultOfNamedBits.stands_for.Goals as goal

pub returns : goal.returns
returns g c = record {
  at = λ n le. same_named _ _ _ c.least_count.result _ c.args.component.now c.args.self.now.0 c.are_filled_up.ensures c.bits.ensures c.least_count.ensures c.least_count.type_inv;
}

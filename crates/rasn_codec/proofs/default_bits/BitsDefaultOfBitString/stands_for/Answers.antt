use Rattle.rasn_schema.specs.Normal.{normal}
use Rattle.rasn_codec.proofs.SameValues.{same_bits}
use Rattle.rasn_codec.proofs.default_bits.BitsDefaultOfBitString.stands_for.Goals as goal

pub returns : goal.returns
unfolding normal
returns g c = record { at = λ n le. rw c.are_bits.ensures (same_bits c.args.self.now.0 c.args.component.now) }

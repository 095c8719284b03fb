use Rattle.rasn_schema.specs.Normal.{normal}
use Rattle.rasn_codec.proofs.SameValues.{same_number}
use Rattle.rasn_codec.proofs.default_numbers.U64DefaultOf.stands_for.Goals as goal

pub returns : goal.returns
unfolding normal
returns c = record { at = λ n le. same_number c.args.self.now c.args.component.now }

use Rattle.rasn_schema.specs.Normal.{normal}
use Rattle.rasn_codec.proofs.SameValues.{same_truth}
use Rattle.rasn_codec.proofs.default_numbers.BoolDefaultOf.stands_for.Goals as goal

pub returns : goal.returns
unfolding normal
returns c = record { at = λ n le. same_truth c.args.self.now c.args.component.now }

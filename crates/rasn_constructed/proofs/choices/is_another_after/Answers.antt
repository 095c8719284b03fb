use Rattle.rasn_types.specs.Values.{added}
use Rattle.rasn_constructed.proofs.ChoiceTests.{told_another}
use Rattle.rasn_constructed.proofs.choices.is_another_after.Goals as goal

pub returns : goal.returns
returns g c = told_another g.T.Alternatives.alternatives.0 _ (g.T.Alternatives.chosen c.args.of.now) added c.args.place _ c.requires.another

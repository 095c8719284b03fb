use Rattle.rasn_types.specs.Values.{root}
use Rattle.rasn_constructed.proofs.ChoiceTests.{told_another}
use Rattle.rasn_constructed.proofs.choices.is_another.Goals as goal

pub returns : goal.returns
returns g c = told_another g.T.Alternatives.alternatives.0 _ (g.T.Alternatives.chosen c.args.of.now) root c.args.place _ c.requires.another

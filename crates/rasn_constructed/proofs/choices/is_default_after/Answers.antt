use Rattle.rasn_constructed.proofs.ChoiceTests.{told_added}
use Rattle.rasn_constructed.proofs.choices.is_default_after.Goals as goal

pub returns : goal.returns
returns g c = rw c.requires.value (told_added g.T.Alternatives.alternatives.0 c.args.place _ _ (g.H.AsnType.schema c.CONSTRAINTS.result) _ _ _
    (rw c.CONSTRAINTS.ensures c.requires.schema) c.requires.levels c.stands_for.ensures.at)

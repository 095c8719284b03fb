use Rattle.rasn_constructed.proofs.TwoRecords.{told_additions, told_root}
use Rattle.rasn_constructed.proofs.records.are_all.Goals as goal

pub returns-then-not-are_defaults : goal.returns-then-not-are_defaults
returns-then-not-are_defaults g c = rw (c.requires.values, c.requires.added) (told_root g.T.Components.components.0 _ _ _ _ _ _ _ _ _
    c.requires.components c.requires.filled c.requires.depth c.are_defaults.ensures c.if-not-are_defaults.true)

pub returns : goal.returns
returns g c = rw (c.requires.values, c.requires.added) (told_additions g.T.Components.components.0 _ _ _ _ _ _ _ _ _ _ _
    c.requires.components c.requires.additions c.requires.filled c.requires.groups c.requires.depth c.are_defaults.ensures
    c.if-not-are_defaults.false c.are_defaults-2.ensures)

use Rattle.rasn_record.proofs.LevelsWithin.{held_within}
use Rattle.rasn_record.proofs.write.extended.Goals as goal

pub all-requires-clause-depth : goal.all-requires-clause-depth
all-requires-clause-depth g c =
    let depth = g.T.Components.depth c.args.of.now in
    held_within depth (g.P.EncodeParts.levels c.args.cells.now) (g.Q.EncodeAdditions.levels c.args.additions.now) c.requires.depth
    (g.met.P.EncodeEach.within c.args.cells.now depth) (g.met.Q.EncodeEachAddition.within c.args.additions.now depth)

use Rattle.rasn_record.proofs.LevelsWithin.{plain_within}
use Rattle.rasn_record.proofs.write.without_additions.Goals as goal

pub all-requires-clause-depth : goal.all-requires-clause-depth
all-requires-clause-depth g c =
    let depth = g.T.Components.depth c.args.of.now in
    plain_within depth (g.P.EncodeParts.levels c.args.cells.now) c.requires.depth (g.met.P.EncodeEach.within c.args.cells.now depth)

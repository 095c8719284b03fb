use Rattle.std.proofs.Common.{arith}
use Rattle.rasn_record.specs.Lists.{both_within}
use Rattle.rasn_record.proofs.LevelsWithin.{deepest_within}
use Rattle.rasn_record.proofs.write.plain.Goals as goal

pub all-requires-clause-depth : goal.all-requires-clause-depth
all-requires-clause-depth g c =
    rw (g.met.P.EncodeEach.is_deepest c.args.cells.now)
    (both_within (omega arith) (deepest_within (g.T.Components.depth c.args.of.now) (g.P.EncodeEach.each c.args.cells.now) c.requires.depth))

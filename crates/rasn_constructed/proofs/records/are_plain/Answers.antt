use Rattle.std.proofs.Common.{arith}
use Rattle.rasn_record.specs.Lists.{both_within}
use Rattle.rasn_record.proofs.LevelsWithin.{deepest_within}
use Rattle.rasn_constructed.proofs.records.are_plain.Goals as goal

pub are_all-requires-clause-depth : goal.are_all-requires-clause-depth
are_all-requires-clause-depth g c =
    both_within (omega arith) (deepest_within (g.T.Components.depth c.args.of.now) (g.P.ComparedParts.levels c.args.root.now) c.requires.depth)

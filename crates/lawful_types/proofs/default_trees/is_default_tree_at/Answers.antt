use Rattle.std.proofs.Common.{◌+◌, arith}
use Rattle.lawful_types.specs.TypeRules.{tree_levels}
use Rattle.lawful_types.proofs.default_trees.is_default_tree_at.Goals as goal

pub returns : goal.returns
returns c = c.is_right_at.ensures.at (tree_levels c.args.told.now + 2) (omega arith)

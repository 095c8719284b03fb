use Rattle.std.proofs.Common.{◌∙◌, sym, ap}
use Rattle.rasn_dynamic.specs.Depths.{depth}
use Rattle.rasn_dynamic.specs.Values.{value_of}
use Rattle.rasn_dynamic.proofs.Depths.{levels_below}
use Rattle.rasn_dynamic_jer.proofs.write.is_default.Goals as goal

pub returns-in-Default : goal.returns-in-Default
returns-in-Default c = rw c.in-Default.is (c.is_default_tree_at.ensures.at (depth (value_of c.args.value.now)) (levels_below c.args.value.now))

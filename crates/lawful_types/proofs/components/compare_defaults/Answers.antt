use Rattle.std.proofs.Common.{◌∙◌, sym}
use Rattle.rasn_types.proofs.Codes.{same_true}
use Rattle.rasn_dynamic.specs.Types.{tree_value}
use Rattle.lawful_types.proofs.components.compare_defaults.Goals as goal

pub returns-clause-same : goal.returns-clause-same
returns-clause-same c = same_true (tree_value c.args.newer.now) (tree_value c.args.older.now) (sym c.are_same.ensures ∙ c.if-not-are_same.false)

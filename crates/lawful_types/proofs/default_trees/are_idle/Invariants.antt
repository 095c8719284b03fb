use Rattle.std.proofs.Common.{true}
use Rattle.rasn_schema.specs.Normal.{is_idle}
use Rattle.rasn_dynamic.specs.Types.{presence_of, tree_slot}
use Rattle.lawful_types.proofs.Pairwise.{PairedTo}
use Rattle.lawful_types.proofs.default_trees.are_idle.Given as goal

-- what is said of the components before a place is absent or their default
abbrev pub invariant-loop-index : goal.invariant-loop-index
invariant-loop-index l = PairedTo 0 (λ n c d. is_idle (presence_of true c.presence) (tree_slot d)) l.fn.components l.fn.tolds l.index

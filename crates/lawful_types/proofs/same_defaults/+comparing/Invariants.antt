use Rattle.rasn_types.specs.Values.{same}
use Rattle.rasn_dynamic.specs.Defaults.{same_slot}
use Rattle.rasn_dynamic.specs.Types.{tree_slot, tree_value}
use Rattle.lawful_types.proofs.Pairwise.{PairedTo}
use Rattle.lawful_types.proofs.same_defaults.+comparing.Given as goal

-- the values up to a place are the same
abbrev pub invariant-are_same_values-loop-index : goal.invariant-are_same_values-loop-index
invariant-are_same_values-loop-index l = PairedTo 0 (λ n d e. same (tree_value d) (tree_value e)) l.owns l.others l.index

-- what is there up to a place is
abbrev pub invariant-are_same_slots-loop-index : goal.invariant-are_same_slots-loop-index
invariant-are_same_slots-loop-index l = PairedTo 0 (λ n d e. same_slot (tree_slot d) (tree_slot e)) l.owns l.others l.index

use Rattle.std.proofs.Common.{◌≡◌, ◌+◌, ◌≤◌, ℕ, take, true}
use Rattle.rasn_schema.specs.Lawful.{all_pass}
use Rattle.rasn_schema.specs.Lists.{deepest}
use Rattle.rasn_dynamic.specs.Types.{schema_at, tree_slot, tree_value}
use Rattle.lawful_types.specs.TypeRules.{is_right, is_right_slot, tree_levels}
use Rattle.lawful_types.proofs.Pairwise.{PairedTo}
use Rattle.lawful_types.proofs.default_trees.+judging.Given as goal

-- the elements before a place are values of the type
abbrev pub invariant-are_elements-loop-told : goal.invariant-are_elements-loop-told
invariant-are_elements-loop-told l = (n : ℕ) → deepest tree_levels l.tolds + 2 ≤ n → all_pass (λ d. is_right (schema_at l.kinds l.place n) (tree_value d)) (take l.told-index l.tolds) ≡ true

-- what is said of the components before a place fits
abbrev pub invariant-are_parts-loop-index : goal.invariant-are_parts-loop-index
invariant-are_parts-loop-index l = PairedTo (deepest tree_levels l.tolds + 2) (λ n c d. is_right_slot l.are_added l.kinds n c (tree_slot d)) l.components l.tolds l.index

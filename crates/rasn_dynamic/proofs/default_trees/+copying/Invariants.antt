use Rattle.std.proofs.Common.{◌≡◌, ◌++◌, drop, map, Some}
use Rattle.rasn_dynamic.specs.Types.{tree_slot, tree_value}
use Rattle.rasn_dynamic.specs.Values.{slot_of}
use Rattle.rasn_dynamic.proofs.default_trees.+copying.Given as goal

-- the values, and the defaults that are left, stand for what all defaults are
abbrev pub invariant-copies_of-loop-told : goal.invariant-copies_of-loop-told
invariant-copies_of-loop-told l = (map slot_of l.values.items ++ map tree_slot (drop l.told-index l.tolds)) ≡ map tree_slot l.tolds

abbrev pub invariant-values_of-loop-told : goal.invariant-values_of-loop-told
invariant-values_of-loop-told l = (map slot_of l.values.items ++ map (λ d. Some (tree_value d)) (drop l.told-index l.tolds)) ≡ map (λ d. Some (tree_value d)) l.tolds

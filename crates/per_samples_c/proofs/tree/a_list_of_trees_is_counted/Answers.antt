use Rattle.std.proofs.Common.{◌≡◌, ◌≤◌, ℕ, zero, suc, [], ◌∷◌, Some, arith, refl}
use Rattle.rasn_below.specs.Types.{sequence_at, normal, settle}
use Rattle.per_core.specs.Rows.{Variant, aligned, unaligned, bytes}
use Rattle.per_samples_c.specs.Trees.{branch, tree}
use Rattle.per_samples_c.proofs.tree.a_list_of_trees_is_counted.Goals as goal

leaf : (a : Variant) (n : ℕ) → 2 ≤ n → bytes a (sequence_at tree n) (normal (sequence_at tree n) (branch 1 [])) ≡ Some (0x01 ∷ 0x00 ∷ [])
unfolding bytes normal settle
leaf a zero h = absurd (omega arith)
leaf a (suc zero) h = absurd (omega arith)
leaf unaligned (suc (suc n)) h = refl
leaf aligned (suc (suc n)) h = refl

child : (a : Variant) (n : ℕ) → 4 ≤ n → bytes a (sequence_at tree n) (normal (sequence_at tree n) (branch 5 (branch 6 [] ∷ []))) ≡ Some (0x05 ∷ 0x01 ∷ 0x06 ∷ 0x00 ∷ [])
unfolding bytes normal settle
child a zero h = absurd (omega arith)
child a (suc zero) h = absurd (omega arith)
child a (suc (suc zero)) h = absurd (omega arith)
child a (suc (suc (suc zero))) h = absurd (omega arith)
child unaligned (suc (suc (suc (suc n)))) h = refl
child aligned (suc (suc (suc (suc n)))) h = refl

pub returns-clause-leaf : goal.returns-clause-leaf
returns-clause-leaf c = record { at = leaf unaligned }

pub returns-clause-child : goal.returns-clause-child
returns-clause-child c = record { at = child unaligned }

pub returns-clause-aligned_leaf : goal.returns-clause-aligned_leaf
returns-clause-aligned_leaf c = record { at = leaf aligned }

pub returns-clause-aligned_child : goal.returns-clause-aligned_child
returns-clause-aligned_child c = record { at = child aligned }

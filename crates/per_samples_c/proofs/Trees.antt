-- What is in a Tree, by its fields.
use denote.Hole.Carrier.{out, roll}
use Rattle.std.proofs.Common.{◌≡◌, refl, ap, sym, ◌∙◌, ℕ, suc, max, pos, Vec, Global, [], ◌∷◌, map, Some, arith}
use Rattle.rasn_below.specs.Values.{whole, list_value, sequence_value}
use Rattle.rasn_below.specs.Types.{deepest}
use Rattle.per_samples_c.specs.Trees.{children_depth, tree_contents, tree_depth, tree_values}
use Rattle.per_samples_c.specs.declared.tree.Tree.{Tree, Tree', Row_of-Tree, end_of-Tree, more_of-Tree, items-the_row-Tree, items_hidden-the_row-Tree-0, items_shown-the_row-Tree-0}
use Rattle.per_samples_c.specs.declared.tree.Tree.TheBlock.{hidden-the_row-Tree-0}
use Rattle.per_samples_c.specs.declared.tree.Tree.TheViews.{out-Tree, roll-Tree}

-- the children, as a list
children_are : (n : _) (row : Row_of-Tree n) → tree_values row ≡ map (λ t. sequence_value (tree_contents t)) (items-the_row-Tree n row)
children_are n end_of-Tree = refl
children_are n (more_of-Tree child rest) = ap (λ vs. sequence_value (tree_contents child) ∷ vs) (children_are _ rest)

-- how many levels they take
deepest_child : (n : _) (row : Row_of-Tree n) → children_depth row ≡ deepest (λ t. suc (tree_depth t)) (items-the_row-Tree n row)
deepest_child n end_of-Tree = refl
deepest_child n (more_of-Tree child rest) = ap (λ d. max (suc (tree_depth child)) d) (deepest_child _ rest)

-- what is read, of its components
pub tree_read : (value : ℕ) (xs : Vec Tree Global) → tree_contents (roll-Tree (record { value = value; children = xs }))
    ≡ Some (whole (pos value)) ∷ Some (list_value (map (λ t. sequence_value (tree_contents t)) xs.items)) ∷ []
unfolding roll-Tree roll
tree_read value xs = ap (λ vs. Some (whole (pos value)) ∷ Some (list_value vs) ∷ []) (children_are _ (hidden-the_row-Tree-0 xs) ∙ ap (map (λ t. sequence_value (tree_contents t))) (items_hidden-the_row-Tree-0 xs))

-- what is looked at
pub tree_of : (x : Tree) → tree_contents x
    ≡ Some (whole (pos (out-Tree x).value)) ∷ Some (list_value (map (λ t. sequence_value (tree_contents t)) (out-Tree x).children.items)) ∷ []
unfolding out-Tree out
tree_of (Tree' value shape row) =
    ap (λ vs. Some (whole (pos value)) ∷ Some (list_value vs) ∷ []) (children_are _ row ∙ ap (map (λ t. sequence_value (tree_contents t))) (sym (items_shown-the_row-Tree-0 shape row)))

-- and how many levels that takes
pub levels_of : (x : Tree) → tree_depth x ≡ max 0 (max (suc (deepest (λ t. suc (tree_depth t)) (out-Tree x).children.items)) 0)
unfolding out-Tree out
levels_of (Tree' value shape row) =
    ap suc (deepest_child _ row ∙ ap (deepest (λ t. suc (tree_depth t))) (sym (items_shown-the_row-Tree-0 shape row))) ∙ omega arith

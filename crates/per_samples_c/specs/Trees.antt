-- Tree ::= SEQUENCE { value INTEGER (0..255), children SEQUENCE OF Tree }
use Rattle.std.specs.Prelude.{◌≡◌, ℕ, zero, suc, pos, max, List, [], ◌∷◌, Option, Some, false, refl}
use Rattle.rasn_below.specs.Page.{Value, whole, sequence_value, list_value, Component, at, any, ◌to◌, integer, u8}
use Rattle.rasn_below.specs.Page.{under, sequence_of, TypeLists, own_tags}
use Rattle.rasn_below.specs.Types.{Schema, listed, no_parts, part, any_size, Levelled, no_level, to_leaf, to_list}
use Rattle.rasn_below.specs.Types.{to_sequence, to_part, to_no_parts, sequence_at}
use Rattle.rasn_below.specs.Types
use Rattle.per_samples_c.specs.declared.tree.Tree.{Tree, Tree', Row_of-Tree, end_of-Tree, more_of-Tree}

abbrev pub tree_value : Component
tree_value = under (at 0) (integer u8 (0 to 255))

-- to a number of levels
abbrev pub tree_schema : ℕ → Schema
tree_schema zero = Types.cut
tree_schema (suc zero) = Schema.sequence listed (part (at 0) Types.required (tree_value.schema 0)
    (part (at 1) Types.required Types.cut no_parts)) false no_parts
tree_schema (suc (suc n)) = Schema.sequence listed (part (at 0) Types.required (tree_value.schema 0)
    (part (at 1) Types.required (Schema.list (tree_schema n) any_size false) no_parts)) false no_parts

pub tree_levelled : Levelled tree_schema
tree_levelled zero = no_level tt
tree_levelled (suc zero) = to_sequence (to_part (to_leaf tt) (to_part (no_level tt) to_no_parts)) to_no_parts
tree_levelled (suc (suc n)) =
    to_sequence (to_part (to_leaf tt) (to_part (to_list (tree_levelled n)) to_no_parts)) to_no_parts

abbrev pub tree : TypeLists
tree = own_tags (tree_value ∷ under (at 1) (sequence_of any (record {
  tags = at 0;
  presence = Types.required;
  schema = tree_schema;
  levelled = tree_levelled;
  fits = λ n. refl;
})) ∷ [])

-- the trees are those of its components
pub tree_is_sequence : (n : ℕ) → sequence_at tree n ≡ tree_schema n
tree_is_sequence zero = refl
tree_is_sequence (suc zero) = refl
tree_is_sequence (suc (suc n)) = refl

-- what the components are
abbrev mutual
  pub tree_contents : Tree → List (Option Value)
  tree_contents (Tree' value shape children) = Some (whole (pos value)) ∷ Some (list_value (tree_values children)) ∷ []

  pub tree_values : {m : _} → Row_of-Tree m → List Value
  tree_values end_of-Tree = []
  tree_values (more_of-Tree child rest) = sequence_value (tree_contents child) ∷ tree_values rest

-- how many levels the components take: one for the list, and those of the deepest child
abbrev mutual
  pub tree_depth : Tree → ℕ
  tree_depth (Tree' value shape children) = suc (children_depth children)

  pub children_depth : {m : _} → Row_of-Tree m → ℕ
  children_depth end_of-Tree = 0
  children_depth (more_of-Tree child rest) = max (suc (tree_depth child)) (children_depth rest)

-- what a tree is, of its number and its children
abbrev pub branch : ℕ → List Value → Value
branch value children = sequence_value (Some (whole (pos value)) ∷ Some (list_value children) ∷ [])

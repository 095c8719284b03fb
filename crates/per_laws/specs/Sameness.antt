-- Whether two parts of schemas are one, and whether a schema is whole.
use Rattle.std.specs.Prelude.{ℕ, ℤ, Bool, true, false, not, ◌&&◌, ◌==◌, Option, Some, None}
use Rattle.rasn_types.specs.Contents.{TextKind, TimeKind}
use Rattle.rasn_types.specs.Values.{whole_code, equal_lists}
use Rattle.rasn_constraints.specs.Bounds.{Bounds, Size}
use Rattle.rasn_schema.specs.Lawful.{same_tag}
use Rattle.rasn_schema.specs.Schemas.{TagTree, TagTrees, leaf, one_of, no_trees, tree, Order, listed, by_tag, Schema}
use Rattle.rasn_schema.specs.Schemas.{Parts, no_parts, part}

abbrev pub same_truth : Bool → Bool → Bool
same_truth true b = b
same_truth false b = not b

abbrev pub same_count : Option ℕ → Option ℕ → Bool
same_count None None = true
same_count (Some a) (Some b) = a == b
same_count _ _ = false

abbrev pub same_size : Size → Size → Bool
same_size a b = same_count a.least b.least && same_count a.most b.most

abbrev pub same_number : Option ℤ → Option ℤ → Bool
same_number None None = true
same_number (Some a) (Some b) = equal_lists (whole_code a) (whole_code b)
same_number _ _ = false

abbrev pub same_bounds : Bounds → Bounds → Bool
same_bounds a b = same_number a.low b.low && same_number a.high b.high

abbrev pub same_text : TextKind → TextKind → Bool
same_text TextKind.utf8 TextKind.utf8 = true
same_text TextKind.other TextKind.other = true
same_text _ _ = false

abbrev pub same_time : TimeKind → TimeKind → Bool
same_time TimeKind.utc TimeKind.utc = true
same_time TimeKind.generalized TimeKind.generalized = true
same_time _ _ = false

abbrev pub same_order : Order → Order → Bool
same_order listed listed = true
same_order by_tag by_tag = true
same_order _ _ = false

abbrev mutual
  pub same_tree : TagTree → TagTree → Bool
  same_tree (leaf t) (leaf u) = same_tag t u
  same_tree (one_of t ts) (one_of u us) = same_tree t u && same_trees ts us
  same_tree _ _ = false

  pub same_trees : TagTrees → TagTrees → Bool
  same_trees no_trees no_trees = true
  same_trees (tree t ts) (tree u us) = same_tree t u && same_trees ts us
  same_trees _ _ = false

abbrev mutual
  -- whether no branch of a schema is cut off
  pub is_whole : Schema → Bool
  is_whole Schema.cut = false
  is_whole (Schema.containing e) = is_whole e
  is_whole (Schema.list e size mark) = is_whole e
  is_whole (Schema.set_of e size mark) = is_whole e
  is_whole (Schema.sequence o ps ext adds) = are_whole ps && are_whole adds
  is_whole (Schema.choice ps adds ext) = are_whole ps && are_whole adds
  is_whole _ = true

  -- whether no branch of the schemas of parts is cut off
  pub are_whole : Parts → Bool
  are_whole no_parts = true
  are_whole (part t p s ps) = is_whole s && are_whole ps

-- Tags, tag trees and fields as contracts see them.
use Rattle.std.specs.Prelude.{ℕ, suc, Bool, true, false, List, [], ◌∷◌, Option, Some, None, map}
use Rattle.rasn_types.specs.declared.types.Tag.{Tag}
use Rattle.rasn_schema.specs.Orders.{by_tags}
use Rattle.rasn_schema.specs.Schemas
use Rattle.rasn_schema.specs.Schemas.{leaf, one_of, no_trees, tree, Parts, no_parts, part}
use Rattle.rasn_schema.specs.declared.fields.Field.{Field}
use Rattle.rasn_schema.specs.declared.fields.TagTree.{TagTree}
use Rattle.rasn_schema.specs.declared.fields.TagTree.TheFolds.{fold-TagTree}
use Rattle.rasn_schema.specs.declared.fields.TagTree.TheOpen.{TagTree-F, Leaf, Choice}
use Rattle.rasn_schema.specs.declared.fields.Presence.{Presence}
use Rattle.rasn_schema.specs.declared.fields.Presence.TheVariants.{Required, Optional, Default}
use Rattle.rasn_schema.specs.Structures.{tag_of, field_tag}

-- whether a component may be absent
abbrev pub is_not_required : Presence → Bool
is_not_required Required = false
is_not_required Optional = true
is_not_required Default = true

-- the tag tree of a type whose own tag is this
abbrev pub tagged : Tag → Schemas.TagTree
tagged t = leaf (tag_of t)

-- a tree in front of others
abbrev pub and_tree : Schemas.TagTree → Option Schemas.TagTrees → Option Schemas.TagTrees
and_tree t None = None
and_tree t (Some ts) = Some (tree t ts)

-- the trees of alternatives, where each has one
abbrev pub trees_of : List (Option Schemas.TagTree) → Option Schemas.TagTrees
trees_of [] = Some no_trees
trees_of (None ∷ ts) = None
trees_of (Some t ∷ ts) = and_tree t (trees_of ts)

-- the tree of an untagged choice of such alternatives, where there is at least one
abbrev pub choice_tree : Option Schemas.TagTrees → Option Schemas.TagTree
choice_tree None = None
choice_tree (Some no_trees) = None
choice_tree (Some (tree t ts)) = Some (one_of t ts)

-- one level of a constant's tag tree, which has the trees of the alternatives in their place
abbrev pub tree_step : TagTree-F (Option Schemas.TagTree) → Option Schemas.TagTree
tree_step (Leaf t) = Some (tagged t)
tree_step (Choice ts) = choice_tree (trees_of ts.now)

-- the tag tree that a constant states; none where an untagged choice in it has no alternatives
abbrev pub tree_of : TagTree → Option Schemas.TagTree
tree_of = fold-TagTree (Option Schemas.TagTree) tree_step

-- a field without its name
pub record Shape : Type 0 where
  pub index : ℕ
  pub tag : Schemas.Tag
  pub tree : Option Schemas.TagTree
  pub presence : Presence

abbrev pub shape_of : Field → Shape
shape_of f = record { index = f.index; tag = tag_of f.tag; tree = tree_of f.tag_tree; presence = f.presence }

-- the fields of a record as its type lists them (X.680 25.1): those of its root, and those after its extension marker,
-- where it has one
pub record Shapes : Type 0 where
  pub before : List Shape
  pub behind : Option (List Shape)

-- an addition group counts as optional
abbrev pub presence_of : Schemas.Presence → Presence
presence_of Schemas.required = Required
presence_of Schemas.optional = Optional
presence_of Schemas.group = Optional
presence_of (Schemas.default d) = Default

-- the fields of components, in order, counted from a number
abbrev pub shapes_from : ℕ → Parts → List Shape
shapes_from i no_parts = []
shapes_from i (part t p s ps) = record { index = i; tag = field_tag t; tree = Some t; presence = presence_of p }
    ∷ shapes_from (suc i) ps

-- whether a field has a presence bit
abbrev pub may_be_absent : Shape → Bool
may_be_absent f = is_not_required f.presence

-- X.691 21.1: fields in ascending order of their tags
abbrev pub in_tag_order : List Shape → List Shape
in_tag_order fs = by_tags (map (λ f. f.tag) fs) fs

-- Choices (X.680 29): their alternatives, each by its list, before the extension marker or after it, and its place
-- there; and their schemas to a number of levels.
use Rattle.std.specs.Prelude.{ℕ, zero, suc, ◌≡◌, Bool, true, false, nat_le, List, [], ◌∷◌, ◌++◌, length, map, Option}
use Rattle.std.specs.Prelude.{Some, None, ◌^◌}
use Rattle.std.specs.List.{position_from}
use Rattle.rasn_types.specs.declared.types.TheConstants.Tag.{EOC}
use Rattle.rasn_types.specs.Values.{Side, root, added}
use Rattle.rasn_schema.specs.Fields.{choice_tree, tree_of, trees_of}
use Rattle.rasn_schema.specs.Structures.{field_tag, tag_of, choice_schema}
use Rattle.rasn_schema.specs.Lawful.{are_distinct, same_tag}
use Rattle.rasn_schema.specs.Levels.{LevelledParts, Levelled, no_level, to_choice}
use Rattle.rasn_schema.specs.Records.{own_or}
use Rattle.rasn_schema.specs.Schemas
use Rattle.rasn_schema.specs.Schemas.{Schema, Parts, no_parts, part, TagTrees, no_trees, tree}
use Rattle.rasn_schema.specs.TreeTags.{least, leaves_in}
use Rattle.rasn_schema.specs.declared.fields.TagTree.{TagTree}
use Rattle.rasn_schema.specs.declared.items.Place.{Place}
use Rattle.rasn_schema.specs.declared.items.Place.TheVariants.{Root, Added}

-- a variant: the tag that it goes by, its type's own or the smallest of a nested untagged choice; and its tags
pub record VariantShape : Type 0 where
  pub tag : Schemas.Tag
  pub tree : Option Schemas.TagTree

-- the variants of a choice as its type lists them (X.680 29.1): those before its extension marker, and those after it,
-- where it has one
pub record VariantShapes : Type 0 where
  pub before : List VariantShape
  pub behind : Option (List VariantShape)

-- X.691 21.1: the tag that an alternative goes by whose tree a constant states: the least of the tree's tags, and EOC's
-- where it has none
abbrev pub stated_tag : TagTree → Schemas.Tag
stated_tag t = own_or (tag_of EOC) (least (leaves_in t))

abbrev pub variant_shape : TagTree → VariantShape
variant_shape t = record { tag = stated_tag t; tree = tree_of t }

-- the tags by which variants go
abbrev pub go_by : List VariantShape → List Schemas.Tag
go_by vs = map (λ v. v.tag) vs

-- X.691 23.5: the variants of alternatives, in their order; a nested untagged choice is one alternative
abbrev pub variants_of : Parts → List VariantShape
variants_of no_parts = []
variants_of (part t p s ps) = record { tag = field_tag t; tree = Some t } ∷ variants_of ps

-- X.680 29: the tag trees of alternatives
abbrev pub trees_in : Parts → TagTrees
trees_in no_parts = no_trees
trees_in (part t p s ps) = tree t (trees_in ps)

-- the tag tree of an untagged choice with these variants, where it has one
abbrev pub tree_with : List VariantShape → Option Schemas.TagTree
tree_with vs = choice_tree (trees_of (map (λ v. v.tree) vs))

-- the variants after an extension marker, where there is one
abbrev pub variants_after : Option (List VariantShape) → List VariantShape
variants_after None = []
variants_after (Some vs) = vs

-- X.680 29.1: a choice has an extension marker exactly where it states a list of variants after one (this project's
-- profile)
abbrev pub is_extensible : Option (List VariantShape) → Bool
is_extensible None = false
is_extensible (Some vs) = true

-- the variants of one of the two lists
abbrev pub variants_on : Side → List VariantShape → Option (List VariantShape) → List VariantShape
variants_on root vs xs = vs
variants_on added vs xs = variants_after xs

-- the place in a list of the alternative that goes by a tag
abbrev pub place_of : Schemas.Tag → List VariantShape → Option ℕ
place_of t vs = position_from (same_tag t) 0 (go_by vs)

-- Where the alternative stands that goes by a tag, if one does. No other goes by it.
abbrev pub StandsAt : Schemas.Tag → List VariantShape → Option (List VariantShape) → Option Place → Type 0
StandsAt t vs xs None = (place_of t vs ≡ None) × (place_of t (variants_after xs) ≡ None)
StandsAt t vs xs (Some (Root i)) = (place_of t vs ≡ Some i) × (place_of t (variants_after xs) ≡ None)
StandsAt t vs xs (Some (Added i)) = (place_of t vs ≡ None) × (place_of t (variants_after xs) ≡ Some i)

-- a choice with these variants after an extension marker, where there is one, to a number of levels of its
-- alternatives
abbrev pub choices_of : (ℕ → Parts) → Option (List VariantShape) → (ℕ → Parts) → ℕ → Schema
choices_of alternatives xs behind n = choice_schema (alternatives n) (is_extensible xs) (behind n)

-- a family of trees one level further in; with no level left it is cut off
abbrev pub one_level_in : (ℕ → Schema) → ℕ → Schema
one_level_in trees zero = Schemas.cut
one_level_in trees (suc n) = trees n

-- X.680 29: a choice to a number of levels, of which it takes one
abbrev pub choice_at : (ℕ → Parts) → Option (List VariantShape) → (ℕ → Parts) → ℕ → Schema
choice_at alternatives xs behind = one_level_in (choices_of alternatives xs behind)

-- X.680 29.3: alternatives that are told apart by their tags, those of both lists; before the marker there are no more
-- than a slice holds
pub record AreVariants (vs : List VariantShape) (xs : Option (List VariantShape)) : Type 0 where
  pub distinct : are_distinct (go_by vs ++ go_by (variants_after xs)) ≡ true
  pub few : nat_le (length vs) (2 ^ 64) ≡ true

-- a choice leaves one level less for its alternatives
pub choice_levelled : (xs : Option (List VariantShape)) {alternatives behind : ℕ → Parts} → LevelledParts alternatives
    → LevelledParts behind
    → Levelled (choice_at alternatives xs behind)
choice_levelled xs u w zero = no_level tt
choice_levelled xs u w (suc n) = to_choice (u n) (w n)

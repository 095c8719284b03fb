-- The tags of the tree that a constant states (X.680 29.3): its leaves, and the least of them (X.680 8.6).
use Rattle.std.specs.Prelude.{Bool, false, ◌||◌, List, [], ◌∷◌, ◌++◌, Option, Some, None}
use Rattle.rasn_schema.specs.Structures.{tag_of}
use Rattle.rasn_schema.specs.Lawful.{same_tag}
use Rattle.rasn_schema.specs.Schemas.{Tag, lesser}
use Rattle.rasn_schema.specs.declared.fields.TagTree.{TagTree}
use Rattle.rasn_schema.specs.declared.fields.TagTree.TheFolds.{fold-TagTree}
use Rattle.rasn_schema.specs.declared.fields.TagTree.TheOpen.{TagTree-F, Leaf, Choice}

-- lists of tags, one after another
abbrev pub one_after_another : List (List Tag) → List Tag
one_after_another [] = []
one_after_another (ts ∷ us) = ts ++ one_after_another us

-- one level of a tree, which has the leaves of the alternatives in their place
abbrev pub leaves_step : TagTree-F (List Tag) → List Tag
leaves_step (Leaf t) = tag_of t ∷ []
leaves_step (Choice ts) = one_after_another ts.now

-- the leaves of a tree, in their order
abbrev pub leaves_in : TagTree → List Tag
leaves_in = fold-TagTree (List Tag) leaves_step

-- whether a tag is one of a list
abbrev pub has_tag : Tag → List Tag → Bool
has_tag t [] = false
has_tag t (u ∷ us) = same_tag t u || has_tag t us

-- the lesser of two tags that are there
abbrev pub lesser_there : Option Tag → Option Tag → Option Tag
lesser_there None o = o
lesser_there (Some s) None = Some s
lesser_there (Some s) (Some t) = Some (lesser s t)

-- X.680 8.6: the least of some tags, where there is one
abbrev pub least : List Tag → Option Tag
least [] = None
least (t ∷ ts) = lesser_there (Some t) (least ts)

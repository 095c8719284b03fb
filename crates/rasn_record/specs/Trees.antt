-- The tags of an addition, as a list of fields states them (ITU-T X.680, 25, 29).
use Rattle.std.specs.Prelude.{List, [], ◌∷◌, Option, Some, None, cond}
use Rattle.rasn_schema.specs.Fields.{Shape}
use Rattle.rasn_schema.specs.Lawful.{same_tag}
use Rattle.rasn_schema.specs.Schemas.{Tag, TagTree, leaf, one_of, smallest}

-- X.691 21.1: the tags of an untagged CHOICE by whose smallest tag a field goes; else the tag of the field alone
abbrev pub tree_by : Tag → Option TagTree → TagTree
tree_by t None = leaf t
tree_by t (Some (leaf u)) = leaf t
tree_by t (Some (one_of u us)) = cond (same_tag t (smallest (one_of u us))) (one_of u us) (leaf t)

-- those of the first field; where there is none, the tag of a type
abbrev pub first_tree_by : Tag → List Shape → TagTree
first_tree_by own [] = leaf own
first_tree_by own (f ∷ fs) = tree_by f.tag f.tree

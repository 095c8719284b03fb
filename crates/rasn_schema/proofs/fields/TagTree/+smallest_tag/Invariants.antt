use Rattle.std.proofs.Common.{◌≡◌, drop, map, option_map}
use Rattle.rasn_schema.specs.Structures.{tag_of}
use Rattle.rasn_schema.specs.TreeTags.{least, leaves_in, lesser_there, one_after_another}
use Rattle.rasn_schema.proofs.fields.TagTree.+smallest_tag.Given as goal

abbrev pub invariant-loop-tree : goal.invariant-loop-tree
invariant-loop-tree l = lesser_there (option_map tag_of l.smallest) (least (one_after_another (map leaves_in (drop l.tree-index l.tree-items)))) ≡ least (leaves_in l.self)

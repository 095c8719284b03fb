use Rattle.std.proofs.Common.{◌≡◌, drop, map}
use Rattle.rasn_schema.specs.Structures.{tag_of}
use Rattle.rasn_schema.specs.TreeTags.{has_tag, leaves_in, one_after_another}
use Rattle.rasn_schema.proofs.fields.TagTree.+contains.Given as goal

abbrev pub invariant-loop-tree : goal.invariant-loop-tree
invariant-loop-tree l = has_tag (tag_of l.tag) (one_after_another (map leaves_in (drop l.tree-index l.tree-items))) ≡ has_tag (tag_of l.tag) (leaves_in l.self)

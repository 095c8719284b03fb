use Rattle.std.proofs.Common.{◌≡◌, ◌++◌, length}
use Rattle.rasn_schema.specs.Lawful.{are_distinct}
use Rattle.lawful_types.specs.TypeRules.{tags_of}
use Rattle.lawful_types.proofs.tags.are_distinct.Given as goal

abbrev pub invariant-loop-first : goal.invariant-loop-first
invariant-loop-first l = are_distinct (tags_of l.left ++ tags_of l.fn.others) ≡ are_distinct (tags_of l.fn.alternatives ++ tags_of l.fn.others)

abbrev pub decreases-loop-first : goal.decreases-loop-first
decreases-loop-first l = length l.left

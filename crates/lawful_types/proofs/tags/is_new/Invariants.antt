use Rattle.std.proofs.Common.{◌≡◌, true, take}
use Rattle.rasn_schema.specs.Structures.{tag_of}
use Rattle.rasn_schema.specs.Lawful.{is_new}
use Rattle.lawful_types.specs.TypeRules.{tags_of}
use Rattle.lawful_types.proofs.tags.is_new.Given as goal

abbrev pub invariant-loop-alternative : goal.invariant-loop-alternative
invariant-loop-alternative l = is_new (tag_of l.fn.tag) (tags_of (take l.alternative-index l.fn.alternatives)) ≡ true

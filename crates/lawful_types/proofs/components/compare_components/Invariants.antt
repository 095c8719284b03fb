use Rattle.lawful_types.specs.OneLevel.{IsFront, IsNewerComponent}
use Rattle.lawful_types.proofs.Parts.{Along}
use Rattle.lawful_types.proofs.components.compare_components.Given as goal

-- so many components are newer than those in their places
abbrev pub invariant-loop-index : goal.invariant-loop-index
invariant-loop-index l = record {
  front : IsFront l.fn.pairs.items l.pairs.items;
  along : Along (IsNewerComponent l.fn.behind l.fn.newer_kinds l.fn.older_kinds l.pairs.items) l.fn.newer l.fn.older l.index;
}

use Rattle.lawful_types.specs.OneLevel.{IsFront, IsNewerAlternative}
use Rattle.lawful_types.proofs.Parts.{Along}
use Rattle.lawful_types.proofs.components.compare_alternatives.Given as goal

-- so many alternatives are newer than those in their places
abbrev pub invariant-loop-index : goal.invariant-loop-index
invariant-loop-index l = record {
  front : IsFront l.fn.pairs.items l.pairs.items;
  along : Along (IsNewerAlternative l.pairs.items) l.fn.newer l.fn.older l.index;
}

use Rattle.std.proofs.Common.{take}
use Rattle.std.specs.List.{All}
use Rattle.lawful_types.specs.OneLevel.{IsFront, IsNewerPair}
use Rattle.lawful_types.proofs.newer.compare_all.Given as goal

-- so many pairs are compared, and more are listed
abbrev pub invariant-loop-done : goal.invariant-loop-done
invariant-loop-done l = record {
  front : IsFront l.fn.pairs.items l.pairs.items;
  closed : All (IsNewerPair l.fn.newer l.fn.older l.pairs.items) (take l.done l.pairs.items);
}

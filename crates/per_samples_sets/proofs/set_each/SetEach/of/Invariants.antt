use Rattle.std.proofs.Common.{◌≡◌, drop}
use Rattle.per_samples_sets.specs.Each.{none, with_items}
use Rattle.per_samples_sets.proofs.set_each.SetEach.of.Given as goal

abbrev pub invariant-loop-item : goal.invariant-loop-item
invariant-loop-item l = with_items l.set (drop l.item-index l.items) ≡ with_items none l.items

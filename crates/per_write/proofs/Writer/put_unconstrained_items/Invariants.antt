use Rattle.std.proofs.Common.{◌-◌, ◌≤◌, length, drop}
use Rattle.rasn_types.specs.Variants.{variant_of}
use Rattle.per_core.specs.Counts.{in_fragments, fragment_sizes}
use Rattle.per_write.specs.Unwritten.{Remains}
use Rattle.per_write.proofs.Writer.put_unconstrained_items.Given as goal

abbrev pub invariant-loop-start : goal.invariant-loop-start
invariant-loop-start g l =
    let a = variant_of l.fn.self.codec in
    let all = (g.I.ItemsToWrite.counted l.items).writers a in
    let rest = drop l.start all in
    record {
      written : Remains l.fn.self (in_fragments a (fragment_sizes (length all)) all) l.self (in_fragments a (fragment_sizes (length rest)) rest);
      within : l.start ≤ l.count;
    }

abbrev pub decreases-loop-start : goal.decreases-loop-start
decreases-loop-start g l = l.count - l.start

use Rattle.std.proofs.Common.{◌≡◌, ◌++◌, drop, map}
use Rattle.rasn_dynamic.specs.Values.{slot_of}
use Rattle.rasn_dynamic.proofs.copying.+copying.Given as goal

-- the copies, and the values that are left, stand for what all values stand for
abbrev pub invariant-copies_of-loop-value : goal.invariant-copies_of-loop-value
invariant-copies_of-loop-value l = (map slot_of l.copies.items ++ map slot_of (drop l.value-index l.values)) ≡ map slot_of l.values

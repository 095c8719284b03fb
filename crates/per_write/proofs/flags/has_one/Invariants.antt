use Rattle.std.proofs.Common.{◌≡◌, drop}
use Rattle.per_core.specs.Canon.{any_set}
use Rattle.per_write.proofs.flags.has_one.Given as goal

abbrev pub invariant-loop-index : goal.invariant-loop-index
invariant-loop-index g l = any_set l.bits ≡ any_set (drop l.index l.bits)

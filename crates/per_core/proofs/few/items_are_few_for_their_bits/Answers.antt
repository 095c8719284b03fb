use Rattle.std.proofs.Common.{true, length}
use Rattle.std.proofs.Math.Nat.{le_refl}
use Rattle.per_core.proofs.ItemsWithin
use Rattle.per_core.proofs.few.items_are_few_for_their_bits.Goals as goal

pub returns-clause-own : goal.returns-clause-own
returns-clause-own c = λ a s v p b x. (ItemsWithin.few a true s v p b (length b) (le_refl (length b)) x).0

pub returns-clause-within : goal.returns-clause-within
returns-clause-within c = λ a s v p b x. (ItemsWithin.few a true s v p b (length b) (le_refl (length b)) x).1

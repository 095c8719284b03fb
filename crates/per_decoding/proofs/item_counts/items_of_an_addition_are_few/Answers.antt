use Rattle.per_decoding.proofs.CallItems
use Rattle.per_decoding.proofs.item_counts.items_of_an_addition_are_few.Goals as goal

pub returns-clause-own : goal.returns-clause-own
returns-clause-own g c = λ k slot s t x v h e. (CallItems.added_few k s (slot x) t v h.law e).0

pub returns-clause-within : goal.returns-clause-within
returns-clause-within g c = λ k slot s t x v h e. (CallItems.added_few k s (slot x) t v h.law e).1

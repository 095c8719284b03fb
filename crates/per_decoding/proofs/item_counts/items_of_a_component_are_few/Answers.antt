use Rattle.per_decoding.proofs.CallItems
use Rattle.per_decoding.proofs.item_counts.items_of_a_component_are_few.Goals as goal

pub returns-clause-own : goal.returns-clause-own
returns-clause-own g c = λ p k slot s t x v h e. CallItems.own_or (CallItems.part_few p k s (slot x) t v h.law e)

pub returns-clause-within : goal.returns-clause-within
returns-clause-within g c = λ p k slot s t x v h e. CallItems.within_or (CallItems.part_few p k s (slot x) t v h.law e)

use Rattle.per_decoding.proofs.CallItems
use Rattle.per_decoding.proofs.item_counts.items_are_few_or_the_default.Goals as goal

pub returns-clause-own : goal.returns-clause-own
returns-clause-own g c = λ k value make s t x d m h. CallItems.own_or (CallItems.default_few k value _ s t x d m h)

pub returns-clause-within : goal.returns-clause-within
returns-clause-within g c = λ k value make s t x d m h. CallItems.within_or (CallItems.default_few k value _ s t x d m h)

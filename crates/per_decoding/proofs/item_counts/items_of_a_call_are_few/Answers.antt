use Rattle.per_decoding.proofs.item_counts.items_of_a_call_are_few.Goals as goal

pub returns-clause-own : goal.returns-clause-own
returns-clause-own g c = λ k value s t x h. h.law.few

pub returns-clause-within : goal.returns-clause-within
returns-clause-within g c = λ k value s t x h. h.law.within

use Rattle.per_decoding.proofs.Scoping.InTurn.{cant_end}
use Rattle.per_decoding.proofs.laws.another_amount_is_not_complete.Goals as goal

pub returns : goal.returns
returns c = λ due came i j w k other h p n. cant_end due came i j w k other h p n

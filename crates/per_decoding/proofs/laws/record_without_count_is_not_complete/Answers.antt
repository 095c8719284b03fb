use Rattle.per_decoding.proofs.Scoping.InTurn.{uncounted_since}
use Rattle.per_decoding.proofs.laws.record_without_count_is_not_complete.Goals as goal

pub returns : goal.returns
returns c = λ c s i j w around came a b. uncounted_since a b

use Rattle.per_decoding.proofs.Scoping.InTurn.{all_past, record_complete}
use Rattle.per_decoding.specs.Turns.{awaiting, is_complete}
use Rattle.per_decoding.proofs.laws.record_read_in_turn_is_complete.Goals as goal

pub returns : goal.returns
returns c = λ ps qs marker s i j w around rs xs a b. record_complete awaiting is_complete all_past a.counts b

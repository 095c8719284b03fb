use Rattle.rasn_constructed.proofs.read.VecWraps.decode_wrapped.Goals as goal

pub next_element_in_turn-requires : goal.next_element_in_turn-requires
next_element_in_turn-requires g c = record { in_turn = record { element = _; size = _; mark = _; before = _; taken = _; stands = c.loop-values.invariant.amid } }

use Rattle.rasn_jer.proofs.Writing.{over_ok}
use Rattle.rasn_jer.proofs.texts.chosen_member.Goals as goal

pub returns : goal.returns
returns g c = over_ok c.named_member.result c.named_member.ensures (λ t h. (h.0, record { found = _; is_found = c.identifier_of-identifier.ensures; named = h.1 }, h.2))

use Rattle.rasn_types.proofs.Writing.{written-last}
use Rattle.rasn_types.proofs.ber.push_subidentifier.Goals as goal

pub returns-clause-written : goal.returns-clause-written
returns-clause-written g c = written-last _ _ _ _ c.in_ok-push_leading_octets.ensures.written c.in_ok-push.ensures.items

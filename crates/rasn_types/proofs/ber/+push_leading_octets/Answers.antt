use Rattle.std.proofs.Common.{sym}
use Rattle.std.proofs.lemmas.List.{append-nil}
use Rattle.rasn_types.proofs.Writing.{leading_octets-zero, written-on}
use Rattle.rasn_types.proofs.ber.+push_leading_octets.Goals as goal

pub returns-then-number-eq0-clause-written : goal.returns-then-number-eq0-clause-written
returns-then-number-eq0-clause-written g t c = rw (c.if-number-eq0.true, leading_octets-zero) (sym (append-nil c.args.octets.now.items))

pub returns-clause-written : goal.returns-clause-written
returns-clause-written g t c = written-on _ _ _ _ c.if-number-eq0.false c.in_ok-push_leading_octets.ensures.written c.in_ok-push.ensures.items

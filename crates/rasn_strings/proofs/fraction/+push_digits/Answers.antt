use Rattle.std.proofs.Common.{sym, ap, ◌∙◌, ◌++◌, inl, inr, arith}
use Rattle.std.proofs.lemmas.List.{append-nil}
use Rattle.std.proofs.lemmas.Result.{on_ok_weaker}
use Rattle.rasn_strings.proofs.Fractions.{none_left, digits_on}
use Rattle.rasn_strings.proofs.fraction.+push_digits.Goals as goal
use Rattle.rasn_strings.proofs.fraction.+push_digits.Goals.{then-rest-eq0-via-then-rest-eq0, then-rest-eq0-via-else-rest-eq0+then-places-eq0}

pub returns-then-rest-eq0 : goal.returns-then-rest-eq0
returns-then-rest-eq0 g t c = sym (ap (λ xs. c.args.text.now.items ++ xs) (none_left c.args.places c.args.rest (elim c.then-rest-eq0.branch [ then-rest-eq0-via-then-rest-eq0 w ↦ inl w.if-rest-eq0.true | then-rest-eq0-via-else-rest-eq0+then-places-eq0 w ↦ inr w.if-places-eq0.true ])) ∙ append-nil c.args.text.now.items)

pub returns : goal.returns
returns g t c = on_ok_weaker c.push_digits.result (λ e. digits_on c.args.text.now.items c.push.new.self.items c.push_digits.new.text.items c.args.places _ c.args.rest c.unit_of-unit.result c.if-rest-eq0.false (omega (arith, c.if-places-eq0.false)) c.unit_of-unit.ensures c.in_ok-push.ensures.items e) c.push_digits.ensures

use Rattle.per_versions.proofs.Exchanged.{arrived, lost}
use Rattle.per_versions.proofs.exchange.read_by_newer_under_constraints.Goals as goal
use Rattle.rasn_per.specs.Calls.{Decoded}
use Rattle.std.proofs.Common.{◌∙◌, ap, subst, Err, Ok, false}
use Rattle.std.proofs.lemmas.Result.{err_from_is_err_and}

pub returns : goal.returns
returns g c = λ k.
    let d = subst (λ z. Decoded c.args.codec (g.New.AsnType.schema c.args.read.now) g.New.AsnType.value z (Ok c.in_ok-answer.answer)) c.deref.ensures.value c.in_ok-answer.ensures in
    arrived c.args.codec _ _ _ _ _ _ _ c.in_ok-octets.ensures.ok (c.newer_reader_answers_the_widening_under_constraints.ensures c.args.read.now c.args.written.now k false c.args.codec c.args.value.now _ _ c.in_ok-octets.ensures.ok d)

pub returns-in_err-answer : goal.returns-in_err-answer
returns-in_err-answer g c = λ k.
    let p = err_from_is_err_and c.from_residual-in_err-answer.result c.from_residual-in_err-answer.ensures.1 in
    let d = subst (λ z. Decoded c.args.codec (g.New.AsnType.schema c.args.read.now) g.New.AsnType.value z (Err c.in_err-answer.field-0.0)) c.deref.ensures.value c.in_err-answer.ensures in
    rw (p.1 ∙ ap Err p.2)
    (lost c.args.codec _ _ _ _ _ _ _ c.in_ok-octets.ensures.ok (c.newer_reader_answers_the_widening_under_constraints.ensures c.args.read.now c.args.written.now k false c.args.codec c.args.value.now _ _ c.in_ok-octets.ensures.ok d))

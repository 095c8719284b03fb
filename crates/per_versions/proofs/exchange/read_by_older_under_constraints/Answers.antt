use Rattle.per_versions.proofs.Exchanged.{arrived, lost}
use Rattle.per_versions.proofs.exchange.read_by_older_under_constraints.Goals as goal
use Rattle.rasn_per.specs.Calls.{Decoded}
use Rattle.std.proofs.Common.{◌∙◌, ap, subst, Err, Ok, false}
use Rattle.std.proofs.lemmas.Result.{err_from_is_err_and}

pub returns : goal.returns
returns g c = λ k.
    let d = subst (λ z. Decoded c.args.codec (g.Old.AsnType.schema c.args.read.now) g.Old.AsnType.value z (Ok c.in_ok-answer.answer)) c.deref.ensures.value c.in_ok-answer.ensures in
    arrived c.args.codec _ _ _ _ _ _ _ c.in_ok-octets.ensures.ok (c.older_reader_answers_the_projection_under_constraints.ensures c.args.written.now c.args.read.now k false c.args.codec c.args.value.now _ _ c.in_ok-octets.ensures.ok d)

pub returns-in_err-answer : goal.returns-in_err-answer
returns-in_err-answer g c = λ k.
    let p = err_from_is_err_and c.from_residual-in_err-answer.result c.from_residual-in_err-answer.ensures.1 in
    let d = subst (λ z. Decoded c.args.codec (g.Old.AsnType.schema c.args.read.now) g.Old.AsnType.value z (Err c.in_err-answer.field-0.0)) c.deref.ensures.value c.in_err-answer.ensures in
    rw (p.1 ∙ ap Err p.2)
    (lost c.args.codec _ _ _ _ _ _ _ c.in_ok-octets.ensures.ok (c.older_reader_answers_the_projection_under_constraints.ensures c.args.written.now c.args.read.now k false c.args.codec c.args.value.now _ _ c.in_ok-octets.ensures.ok d))

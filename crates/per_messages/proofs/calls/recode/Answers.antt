use Rattle.std.proofs.lemmas.Result.{err_from_is_err_and}
use Rattle.per_messages.proofs.Refused.{unencoded, unread}
use Rattle.per_messages.proofs.calls.recode.Goals as goal

pub returns-in_err-value-clause-err : goal.returns-in_err-value-clause-err
returns-in_err-value-clause-err c =
    let p = err_from_is_err_and c.from_residual.result c.from_residual.ensures.1 in
    rw p.1 (unread c.args.types.now c.args.codec c.args.place c.args.octets.now _ p.0 c.in_err-value.ensures.err c.in_err-value.ensures.kind p.2)

pub returns-in_err-canonical-clause-err : goal.returns-in_err-canonical-clause-err
returns-in_err-canonical-clause-err c =
    let p = err_from_is_err_and c.from_residual-in_err-canonical.result c.from_residual-in_err-canonical.ensures.1 in
    rw p.1 (unencoded c.args.types.now c.args.codec c.args.place c.args.octets.now c.in_ok-value.value _ p.0 c.in_ok-value.ensures.ok c.in_err-canonical.ensures.err c.in_err-canonical.ensures.kind p.2)

use Rattle.std.proofs.lemmas.Result.{err_from_is_err_and}
use Rattle.per_messages.proofs.Unmade.{unclosed, unwritten}
use Rattle.per_messages.proofs.calls.make.Goals as goal

pub returns-in_err-closed-clause-err : goal.returns-in_err-closed-clause-err
returns-in_err-closed-clause-err c =
    let p = err_from_is_err_and c.from_residual-in_err-closed.result c.from_residual-in_err-closed.ensures.1 in
    rw p.1 (unclosed c.args.types.now c.args.codec c.args.place c.args.text.now c.in_ok-value.value _ p.0 c.in_ok-value.ensures c.in_err-closed.ensures.refused p.2)

pub returns-in_err-canonical-clause-err : goal.returns-in_err-canonical-clause-err
returns-in_err-canonical-clause-err c =
    let p = err_from_is_err_and c.from_residual-in_err-canonical.result c.from_residual-in_err-canonical.ensures.1 in
    rw p.1 (unwritten c.args.types.now c.args.codec c.args.place c.args.text.now c.in_ok-value.value c.in_ok-closed.closed _ p.0 c.in_ok-value.ensures c.in_ok-closed.ensures.written c.in_err-canonical.ensures.err c.in_err-canonical.ensures.kind p.2)

use Rattle.std.proofs.lemmas.Result.{err_from_is_err_and}
use Rattle.per_messages.proofs.FrontOctets.{is_first, shorter}
use Rattle.per_messages.proofs.Refused.{without_first}
use Rattle.per_messages.proofs.calls.first_length.Goals as goal

pub returns-in_err-value-clause-err : goal.returns-in_err-value-clause-err
returns-in_err-value-clause-err c =
    let p = err_from_is_err_and c.from_residual.result c.from_residual.ensures.1 in
    rw p.1 (without_first c.args.types.now c.args.codec c.args.place c.args.octets.now _ p.0 c.in_err-value.ensures.err c.in_err-value.ensures.kind p.2)

pub overflow_sub-size : goal.overflow_sub-size
overflow_sub-size c = shorter _ _ _ c.args.octets.now c.in_ok-value.rest.now c.in_ok-value.ensures.ok

pub returns-clause-ok : goal.returns-clause-ok
returns-clause-ok c = is_first c.args.types.now c.args.codec c.args.place c.in_ok-value.value c.args.octets.now c.in_ok-value.rest.now c.in_ok-value.ensures.ok

use Rattle.std.proofs.Common.{inl, rules}
use Rattle.std.proofs.lemmas.Result.{err_from_is_err_and}
use Rattle.per_messages.specs.Messages.{AreRefused}
use Rattle.per_table.proofs.Refused.{refused_digits}
use Rattle.per_table.proofs.reply.recoded.Goals as goal

pub returns-in_err-canonical-clause-err : goal.returns-in_err-canonical-clause-err
returns-in_err-canonical-clause-err c =
    let p = err_from_is_err_and c.from_residual-in_err-canonical.result c.from_residual-in_err-canonical.ensures.1 in
    rw p.1 (refused_digits (AreRefused c.args.types.now c.args.codec c.args.place) c.args.digits.now c.as_slice.result.now _ p.0 (search rules) (inl c.in_err-canonical.ensures.err) p.2)

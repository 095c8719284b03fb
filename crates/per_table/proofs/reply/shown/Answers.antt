use Rattle.std.proofs.Common.{rules}
use Rattle.std.proofs.lemmas.Result.{err_from_is_err_and}
use Rattle.per_messages.specs.Messages.{AreUnshown}
use Rattle.per_table.proofs.Refused.{refused_digits}
use Rattle.per_table.proofs.reply.shown.Goals as goal

pub returns-in_err-text-clause-err : goal.returns-in_err-text-clause-err
returns-in_err-text-clause-err c =
    let p = err_from_is_err_and c.from_residual-in_err-text.result c.from_residual-in_err-text.ensures.1 in
    rw p.1 (refused_digits (AreUnshown c.args.types.now c.args.codec c.args.place) c.args.digits.now c.as_slice.result.now _ p.0 (search rules) c.in_err-text.ensures.err p.2)

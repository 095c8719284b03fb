use Rattle.std.proofs.lemmas.Result.{err_from_is_err_and}
use Rattle.per_messages.specs.Messages.{IsUnmade}
use Rattle.per_table.proofs.Refused.{refused_text}
use Rattle.per_table.proofs.reply.made.Goals as goal

pub returns-in_err-canonical-clause-err : goal.returns-in_err-canonical-clause-err
returns-in_err-canonical-clause-err c =
    let p = err_from_is_err_and c.from_residual.result c.from_residual.ensures.1 in
    rw p.1 (refused_text (IsUnmade c.args.types.now c.args.codec c.args.place c.args.text.now) _ p.0 (rw c.as_bytes.ensures.value at c.in_err-canonical.ensures.err) p.2)

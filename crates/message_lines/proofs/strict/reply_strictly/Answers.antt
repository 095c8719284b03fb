use Rattle.line_replies.proofs.ReplyLaws.{read_from_start}
use Rattle.message_lines.proofs.strict.reply_strictly.Goals as goal

pub returns-in-Ok : goal.returns-in-Ok
returns-in-Ok g c =
    let all = read_from_start (λ r. g.R.Read.remaining r.now) c.in-Ok.reader _ c.in-Ok.ensures.inner c.in-Ok.ensures.empty c.in-Ok.ensures.capacity in
    rw all at c.reply_to_each.ensures

use Rattle.line_replies.proofs.ReplyLaws.{ends_unread, read_from_start}
use Rattle.line_replies.proofs.replies.reply_to_lines.Goals as goal

pub returns-in-Ok-clause-ok : goal.returns-in-Ok-clause-ok
returns-in-Ok-clause-ok g c =
    let all = read_from_start (λ r. g.R.Read.remaining r.now) c.in-Ok.reader _ c.in-Ok.ensures.inner c.in-Ok.ensures.empty c.in-Ok.ensures.capacity in
    rw all at c.reply_to_each.ensures.ok

pub returns-in-Ok-clause-err : goal.returns-in-Ok-clause-err
returns-in-Ok-clause-err g c =
    let all = read_from_start (λ r. g.R.Read.remaining r.now) c.in-Ok.reader _ c.in-Ok.ensures.inner c.in-Ok.ensures.empty c.in-Ok.ensures.capacity in
    rw all at c.reply_to_each.ensures.err

pub returns-in-Err-clause-err : goal.returns-in-Err-clause-err
returns-in-Err-clause-err g c =
    rw c.of_io.ensures (ends_unread (g.T.Replies.replies c.args.replier.now) _ (g.R.Read.remaining c.args.input.now) (g.W.Write.contents c.args.output.now))

use Rattle.std.specs.Prelude.{[]}
use Rattle.std.specs.Io.Buffered.{reader_remaining}
use Rattle.line_replies.proofs.ReplyLaws.{replied-all}
use Rattle.message_lines.specs.Replies.{IsReplyWhere}
use Rattle.message_lines.proofs.Strictly.{where-more}
use Rattle.message_lines.proofs.strict.reply_to_each.Goals as goal

pub loop-preserved : goal.loop-preserved
loop-preserved g c =
    rw c.either-some_refused.ensures (where-more c.loop.some_refused c.in-Some.is_refused c.args.messages.now (reader_remaining g.R.Read.remaining c.args.input.now)
    (reader_remaining g.R.Read.remaining c.loop.input) (reader_remaining g.R.Read.remaining c.reply_to_next.new.input) (g.W.Write.contents c.args.output.now)
    (g.W.Write.contents c.loop.output) (g.W.Write.contents c.reply_to_next.new.output) c.loop.invariant (rw c.in-Some.is at c.in_ok-next.ensures))

pub returns-in-None : goal.returns-in-None
returns-in-None g c =
    let end = rw c.in-None.is at c.in_ok-next.ensures in
    replied-all (IsReplyWhere c.loop.some_refused c.args.messages.now) (reader_remaining g.R.Read.remaining c.args.input.now)
    (reader_remaining g.R.Read.remaining c.loop.input) (g.W.Write.contents c.args.output.now)
    (g.W.Write.contents c.loop.output) (g.W.Write.contents c.reply_to_next.new.output) c.loop.invariant end.0 end.1

use Rattle.std.proofs.Common.{rules, ap}
use Rattle.std.specs.Prelude.{Some}
use Rattle.std.specs.Io.Buffered.{reader_remaining}
use Rattle.line_replies.proofs.ReplyLaws.{breaks_turns, ends_written, turns-if-ok}
use Rattle.line_replies.proofs.replies.reply_to_next.Goals as goal

pub returns-in-Ok-clause-ok : goal.returns-in-Ok-clause-ok
returns-in-Ok-clause-ok g c = turns-if-ok (g.T.Replies.replies c.args.replier.now) c.take_lines-taken.result (reader_remaining g.R.Read.remaining c.args.input.now) (reader_remaining g.R.Read.remaining c.take_lines-taken.new.input)
    (g.W.Write.contents c.args.output.now) (g.W.Write.contents c.write.new.output) (Some c.new-replies.result.items) c.take_lines-taken.new.replies.items
    (ap Some c.new-replies.ensures.items) c.take_lines-taken.ensures.ok (search rules)

pub returns-clause-err : goal.returns-clause-err
returns-clause-err g c =
    let P = g.T.Replies.replies c.args.replier.now in
    let input = reader_remaining g.R.Read.remaining c.args.input.now in
    let rest = reader_remaining g.R.Read.remaining c.take_lines-taken.new.input in
    let before = g.W.Write.contents c.args.output.now in
    let after = g.W.Write.contents c.write.new.output in
    rw c.of_io.ensures (ends_written P _ input before after
    (breaks_turns P c.take_lines-taken.result input rest before after (Some c.new-replies.result.items) c.take_lines-taken.new.replies.items (ap Some c.new-replies.ensures.items)
    c.take_lines-taken.ensures.ok c.take_lines-taken.ensures.err (rw c.as_slice.ensures.value at c.write.ensures.front)))

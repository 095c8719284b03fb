use Rattle.std.specs.Io.Buffered.{reader_remaining}
use Rattle.line_replies.specs.Printing.{HasReplied}
use Rattle.message_lines.specs.Replies.{IsReplyWhere}
use Rattle.message_lines.proofs.strict.reply_to_each.Given as goal

-- the lines so far have their replies, and none was refused where none is told
abbrev pub invariant-loop : goal.invariant-loop
invariant-loop g l = HasReplied (IsReplyWhere l.some_refused l.fn.messages) (reader_remaining g.R.Read.remaining l.fn.input) (reader_remaining g.R.Read.remaining l.input)
    (g.W.Write.contents l.fn.output) (g.W.Write.contents l.output)

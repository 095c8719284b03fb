use Rattle.std.specs.Io.Buffered.{reader_remaining}
use Rattle.line_replies.specs.Printing.{HasReplied}
use Rattle.line_replies.proofs.replies.reply_to_each.Given as goal

abbrev pub invariant-loop : goal.invariant-loop
invariant-loop g l = HasReplied (g.T.Replies.replies l.fn.replier) (reader_remaining g.R.Read.remaining l.fn.input) (reader_remaining g.R.Read.remaining l.input)
    (g.W.Write.contents l.fn.output) (g.W.Write.contents l.output)

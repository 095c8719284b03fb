use Rattle.std.specs.Prelude.{true, Some}
use Rattle.std.specs.Io.Buffered.{reader_remaining}
use Rattle.line_replies.specs.Printing.{TakesTurns}
use Rattle.line_replies.proofs.replies.take_lines.Given as goal

abbrev pub invariant-loop : goal.invariant-loop
invariant-loop g l = TakesTurns (g.T.Replies.replies l.fn.replier) true (reader_remaining g.R.Read.remaining l.fn.input) (reader_remaining g.R.Read.remaining l.input)
    (Some l.fn.replies.items) (Some l.replies.items)

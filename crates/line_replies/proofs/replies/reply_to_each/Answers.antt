use Rattle.std.specs.Prelude.{[]}
use Rattle.std.specs.Io.Buffered.{reader_remaining}
use Rattle.std.proofs.lemmas.Result.{err_from_is_err_and}
use Rattle.line_replies.specs.declared.fault.Fault.TheVariants.{CannotRead}
use Rattle.line_replies.proofs.ReplyLaws.{replied-then, prints-then, ends_then, ends_turn, keeps-same}
use Rattle.line_replies.proofs.replies.reply_to_each.Goals as goal

pub returns-in_err-reply_to_next-clause-err : goal.returns-in_err-reply_to_next-clause-err
returns-in_err-reply_to_next-clause-err g c =
    let p = err_from_is_err_and c.from_residual.result c.from_residual.ensures.1 in
    rw (p.1, p.2) (ends_then (g.T.Replies.replies c.args.replier.now) (reader_remaining g.R.Read.remaining c.args.input.now) (reader_remaining g.R.Read.remaining c.loop.input)
    (g.W.Write.contents c.args.output.now) (g.W.Write.contents c.loop.output) (g.W.Write.contents c.reply_to_next.new.output)
    c.in_err-reply_to_next.field-0.0 c.loop.invariant c.in_err-reply_to_next.ensures.err)

pub returns-then-not-branch-clause-ok : goal.returns-then-not-branch-clause-ok
returns-then-not-branch-clause-ok g c = prints-then (g.T.Replies.replies c.args.replier.now) (reader_remaining g.R.Read.remaining c.args.input.now)
    (reader_remaining g.R.Read.remaining c.loop.input) (g.W.Write.contents c.args.output.now) (g.W.Write.contents c.loop.output)
    (g.W.Write.contents c.reply_to_next.new.output) [] c.loop.invariant (rw c.if-not-branch.true at c.in_ok-reply_to_next.ensures.ok)

pub loop-preserved : goal.loop-preserved
loop-preserved g c =
    let taken = rw c.if-not-branch.false at c.in_ok-reply_to_next.ensures.ok in
    replied-then (g.T.Replies.replies c.args.replier.now) (reader_remaining g.R.Read.remaining c.args.input.now) (reader_remaining g.R.Read.remaining c.loop.input)
    (reader_remaining g.R.Read.remaining c.reply_to_next.new.input) (g.W.Write.contents c.args.output.now) (g.W.Write.contents c.loop.output)
    (g.W.Write.contents c.reply_to_next.new.output) c.loop.invariant taken.0

pub returns-clause-err : goal.returns-clause-err
returns-clause-err g c = ends_turn (g.T.Replies.replies c.args.replier.now) (reader_remaining g.R.Read.remaining c.args.input.now) (reader_remaining g.R.Read.remaining c.loop.input)
    (g.W.Write.contents c.args.output.now) (g.W.Write.contents c.loop.output) (g.W.Write.contents c.loop.output)
    CannotRead c.loop.invariant (keeps-same (g.W.Write.contents c.loop.output))

use Rattle.std.specs.Prelude.{Some}
use Rattle.std.specs.Io.Buffered.{reader_remaining}
use Rattle.std.proofs.lemmas.Result.{err_from_is_err_and}
use Rattle.line_replies.proofs.ReplyLaws.{replied-none, takes-next, ends_turn}
use Rattle.line_replies.proofs.replies.take_lines.Goals as goal

pub returns-in_err-take_line-clause-err : goal.returns-in_err-take_line-clause-err
returns-in_err-take_line-clause-err g c =
    let p = err_from_is_err_and c.from_residual.result c.from_residual.ensures.1 in
    rw (p.1, p.2) (ends_turn (g.T.Replies.replies c.args.replier.now) (reader_remaining g.R.Read.remaining c.args.input.now) (reader_remaining g.R.Read.remaining c.args.input.now)
    (Some c.args.replies.now.items) (Some c.args.replies.now.items) (Some c.take_line.new.replies.items)
    c.in_err-take_line.field-0.0 (replied-none (g.T.Replies.replies c.args.replier.now) (reader_remaining g.R.Read.remaining c.args.input.now) (Some c.args.replies.now.items)) c.in_err-take_line.ensures.err)

pub loop-init : goal.loop-init
loop-init g c =
    takes-next (g.T.Replies.replies c.args.replier.now) (reader_remaining g.R.Read.remaining c.args.input.now) (reader_remaining g.R.Read.remaining c.args.input.now) (reader_remaining g.R.Read.remaining c.take_line.new.input)
    (Some c.args.replies.now.items) (Some c.args.replies.now.items) (Some c.take_line.new.replies.items)
    (replied-none (g.T.Replies.replies c.args.replier.now) (reader_remaining g.R.Read.remaining c.args.input.now) (Some c.args.replies.now.items)) (rw c.if-not-branch.false at c.in_ok-take_line.ensures.ok)

pub returns-in_err-take_line-2-clause-err : goal.returns-in_err-take_line-2-clause-err
returns-in_err-take_line-2-clause-err g c =
    let p = err_from_is_err_and c.from_residual-in_err-take_line-2.result c.from_residual-in_err-take_line-2.ensures.1 in
    rw (p.1, p.2) (ends_turn (g.T.Replies.replies c.args.replier.now) (reader_remaining g.R.Read.remaining c.args.input.now) (reader_remaining g.R.Read.remaining c.loop.input)
    (Some c.args.replies.now.items) (Some c.loop.replies.items) (Some c.take_line-in-loop.new.replies.items)
    c.in_err-take_line-2.field-0.0 c.loop.invariant.0 c.in_err-take_line-2.ensures.err)

pub loop-preserved : goal.loop-preserved
loop-preserved g c =
    takes-next (g.T.Replies.replies c.args.replier.now) (reader_remaining g.R.Read.remaining c.args.input.now) (reader_remaining g.R.Read.remaining c.loop.input) (reader_remaining g.R.Read.remaining c.take_line-in-loop.new.input)
    (Some c.args.replies.now.items) (Some c.loop.replies.items) (Some c.take_line-in-loop.new.replies.items)
    c.loop.invariant.0 (rw c.if-not-branch-2.false at c.in_ok-take_line-2.ensures.ok)

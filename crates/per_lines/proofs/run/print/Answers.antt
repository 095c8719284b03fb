use Rattle.per_lines.specs.Words.{words}
use Rattle.per_lines.specs.declared.arguments.Form.TheVariants.{OneLine, Lines, Zero, As}
use Rattle.per_lines.proofs.FormLaws.{prints_in, ends_in}
use Rattle.per_lines.proofs.run.print.Goals as goal

pub returns-in-OneLine-clause-ok : goal.returns-in-OneLine-clause-ok
returns-in-OneLine-clause-ok g c = prints_in (words c.args.arguments.now) c.in-Some.arguments OneLine (g.R.Read.remaining c.args.input.now)
    (g.W.Write.contents c.args.output.now) (g.W.Write.contents c.print_answer.new.output) c.print_answer.result c.in-Some.ensures.spelled c.in-OneLine.is c.print_answer.ensures.ok

pub returns-in-OneLine-clause-err : goal.returns-in-OneLine-clause-err
returns-in-OneLine-clause-err g c = ends_in (words c.args.arguments.now) c.in-Some.arguments OneLine (g.R.Read.remaining c.args.input.now)
    (g.W.Write.contents c.args.output.now) (g.W.Write.contents c.print_answer.new.output) c.print_answer.result c.in-Some.ensures.spelled c.in-OneLine.is c.print_answer.ensures.err

pub returns-in-Lines-clause-ok : goal.returns-in-Lines-clause-ok
returns-in-Lines-clause-ok g c = prints_in (words c.args.arguments.now) c.in-Some.arguments Lines (g.R.Read.remaining c.args.input.now)
    (g.W.Write.contents c.args.output.now) (g.W.Write.contents c.reply_to_lines.new.output) c.reply_to_lines.result c.in-Some.ensures.spelled c.in-Lines.is c.reply_to_lines.ensures.ok

pub returns-in-Lines-clause-err : goal.returns-in-Lines-clause-err
returns-in-Lines-clause-err g c = ends_in (words c.args.arguments.now) c.in-Some.arguments Lines (g.R.Read.remaining c.args.input.now)
    (g.W.Write.contents c.args.output.now) (g.W.Write.contents c.reply_to_lines.new.output) c.reply_to_lines.result c.in-Some.ensures.spelled c.in-Lines.is c.reply_to_lines.ensures.err

pub returns-in-Zero-clause-ok : goal.returns-in-Zero-clause-ok
returns-in-Zero-clause-ok g c = prints_in (words c.args.arguments.now) c.in-Some.arguments Zero (g.R.Read.remaining c.args.input.now)
    (g.W.Write.contents c.args.output.now) (g.W.Write.contents c.print_answer-in-Zero.new.output) c.print_answer-in-Zero.result c.in-Some.ensures.spelled c.in-Zero.is c.print_answer-in-Zero.ensures.ok

pub returns-in-Zero-clause-err : goal.returns-in-Zero-clause-err
returns-in-Zero-clause-err g c = ends_in (words c.args.arguments.now) c.in-Some.arguments Zero (g.R.Read.remaining c.args.input.now)
    (g.W.Write.contents c.args.output.now) (g.W.Write.contents c.print_answer-in-Zero.new.output) c.print_answer-in-Zero.result c.in-Some.ensures.spelled c.in-Zero.is c.print_answer-in-Zero.ensures.err

pub returns-in-As-clause-ok : goal.returns-in-As-clause-ok
returns-in-As-clause-ok g c = prints_in (words c.args.arguments.now) c.in-Some.arguments (As c.in-As.field-0) (g.R.Read.remaining c.args.input.now)
    (g.W.Write.contents c.args.output.now) (g.W.Write.contents c.print_answer-in-As.new.output) c.print_answer-in-As.result c.in-Some.ensures.spelled c.in-As.is c.print_answer-in-As.ensures.ok

pub returns-in-As-clause-err : goal.returns-in-As-clause-err
returns-in-As-clause-err g c = ends_in (words c.args.arguments.now) c.in-Some.arguments (As c.in-As.field-0) (g.R.Read.remaining c.args.input.now)
    (g.W.Write.contents c.args.output.now) (g.W.Write.contents c.print_answer-in-As.new.output) c.print_answer-in-As.result c.in-Some.ensures.spelled c.in-As.is c.print_answer-in-As.ensures.err

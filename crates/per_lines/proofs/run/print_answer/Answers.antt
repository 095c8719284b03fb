use Rattle.std.proofs.Common.{rules}
use Rattle.per_lines.proofs.FormLaws.{ends_written}
use Rattle.per_lines.proofs.run.print_answer.Goals as goal

pub returns-clause-err : goal.returns-clause-err
returns-clause-err g c = rw c.of_io.ensures (ends_written c.args.arguments _ (g.R.Read.remaining c.args.input.now) (g.W.Write.contents c.args.output.now) (g.W.Write.contents c.write.new.output)
    (record { line = c.in_ok-line.line.items; text = _; is_line = search rules; is_answer = c.in_ok-text.ensures.ok; printed = rw c.as_bytes.ensures.value at c.write.ensures.front }))

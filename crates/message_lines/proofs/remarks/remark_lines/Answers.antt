use Rattle.std.proofs.Common.{sym, ap, ap₂, ◌∙◌, ◌++◌}
use Rattle.message_lines.proofs.Remarked.{lines_all, lines_more}
use Rattle.message_lines.proofs.remarks.remark_lines.Goals as goal

pub loop-remark-preserved : goal.loop-remark-preserved
loop-remark-preserved c =
    c.in_ok-extend_from_slice.ensures.items ∙ ap₂ (λ a b. a ++ b) c.loop-remark.invariant (c.as_bytes.ensures.value ∙ c.in_ok-line.ensures)
    ∙ sym (lines_more c.loop-remark.remark-index c.args.remarks.now c.remark-item.result c.loop-remark-test.true c.remark-item.is)

pub returns : goal.returns
returns c =
    c.loop-remark.invariant ∙ lines_all c.loop-remark.remark-index c.args.remarks.now c.loop-remark-test.false

use Rattle.std.proofs.Common.{◌<◌, length, subst}
use Rattle.std.specs.List.{All}
use Rattle.std.proofs.lemmas.List.{take_all}
use Rattle.std.proofs.lemmas.List.Elements.{All-more}
use Rattle.schema_file.specs.PlacesInside.{RowsAreInside}
use Rattle.schema_file.proofs.judge.judge_rows.Goals as goal

pub loop-row-preserved : goal.loop-row-preserved
loop-row-preserved c =
    All-more (λ r. r.of < length c.args.kinds.now) c.args.rows.now c.loop-row.row-index c.row-item.result c.loop-row-test.true c.loop-row.invariant
    (rw c.row-item.is at c.in_ok-judge_row.ensures)

pub returns : goal.returns
returns c = subst (RowsAreInside (length c.args.kinds.now)) (take_all c.loop-row.row-index c.args.rows.now c.loop-row-test.false) c.loop-row.invariant

use Rattle.std.specs.Prelude.{length, take}
use Rattle.schema_file.specs.PlacesInside.{RowsAreInside}
use Rattle.schema_file.proofs.judge.judge_rows.Given as goal

abbrev pub invariant-loop-row : goal.invariant-loop-row
invariant-loop-row l = RowsAreInside (length l.fn.kinds) (take l.row-index l.fn.rows)

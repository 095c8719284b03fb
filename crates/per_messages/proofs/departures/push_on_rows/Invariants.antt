use Rattle.std.proofs.Common.{take}
use Rattle.per_messages.specs.Remarks.{Adds, of_rows}
use Rattle.per_messages.proofs.departures.push_on_rows.Given as goal

-- the remarks by the rows so far
abbrev pub invariant-loop-row : goal.invariant-loop-row
invariant-loop-row l = Adds l.fn.remarks.items l.remarks.items
    (of_rows l.kinds l.path l.root l.values l.chooser (take l.row-index l.rows))

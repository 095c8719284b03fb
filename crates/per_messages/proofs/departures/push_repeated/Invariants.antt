use Rattle.std.proofs.Common.{◌≡◌, take}
use Rattle.std.specs.Prelude.{string_bytes}
use Rattle.std.specs.List.{list_any}
use Rattle.per_messages.specs.Remarks.{Adds, each_of, of_again, tells}
use Rattle.per_messages.proofs.departures.push_repeated.Given as goal

-- whether a record so far tells the row, and the remarks on those so far
abbrev pub invariant-loop-index : goal.invariant-loop-index
invariant-loop-index l = record {
  any : l.is_there ≡ list_any (tells l.kinds l.root l.chooser l.row) (take l.index l.values);
  added : Adds l.fn.remarks.items l.remarks.items
      (each_of (of_again (tells l.kinds l.root l.chooser l.row) (string_bytes l.row.name) l.path l.values) (take l.index l.values));
}

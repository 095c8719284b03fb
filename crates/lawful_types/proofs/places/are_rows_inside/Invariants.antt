use Rattle.std.proofs.Common.{◌≡◌, true, take, nat_lt}
use Rattle.rasn_schema.specs.Lawful.{all_pass}
use Rattle.lawful_types.proofs.places.are_rows_inside.Given as goal

abbrev pub invariant-loop-row : goal.invariant-loop-row
invariant-loop-row l = all_pass (λ r. nat_lt r.of l.fn.types) (take l.row-index l.fn.rows) ≡ true

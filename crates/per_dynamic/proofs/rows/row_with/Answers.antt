use Rattle.std.proofs.Common.{◌∙◌}
use Rattle.per_dynamic.proofs.Numbers.{row_with_number}
use Rattle.per_dynamic.proofs.rows.row_with.Goals as goal

pub returns-in-Some : goal.returns-in-Some
returns-in-Some c =
    c.row_of_number.ensures ∙ row_with_number c.args.kinds.now c.args.of c.args.value.now c.in-Some.number.now c.args.rows.now c.in-Some.ensures

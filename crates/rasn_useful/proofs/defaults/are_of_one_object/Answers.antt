use Rattle.std.proofs.Common.{sym}
use Rattle.std.proofs.lemmas.Bool.Decides.{Decides-eqb}
use Rattle.std.proofs.lemmas.Slice.Eq.{slice_eq-Decides}
use Rattle.rasn_useful.proofs.OneObject.{of_an_object, of_none}
use Rattle.rasn_useful.proofs.defaults.are_of_one_object.Goals as goal

pub returns-then-are_of_an_object : goal.returns-then-are_of_an_object
returns-then-are_of_an_object c = of_an_object c.eq.result c.args.arcs.now c.args.others.now (sym c.if-are_of_an_object.ensures)
    (slice_eq-Decides Decides-eqb c.args.arcs.now c.args.others.now c.eq.result c.eq.ensures)

pub returns-else-are_of_an_object : goal.returns-else-are_of_an_object
returns-else-are_of_an_object c = rw c.are_of_an_object-else-are_of_an_object.ensures
    (of_none c.args.arcs.now c.args.others.now (sym c.if-are_of_an_object.ensures))

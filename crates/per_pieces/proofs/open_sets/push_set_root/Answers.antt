use Rattle.std.proofs.Common.{◌∙◌}
use Rattle.std.proofs.lemmas.Result.{on_ok_weaker}
use Rattle.per_pieces.proofs.Ordering.{placed_root}
use Rattle.per_pieces.proofs.open_sets.push_set_root.Goals as goal

pub returns : goal.returns
returns g c = λ ps e l.
    on_ok_weaker c.push_values.result (placed_root ps c.args.fields.now c.in_ok-sorted.sorted.items c.as_slice-ordered.result.now c.as_slice-list.result.now c.args.components.now e l c.in_ok-sorted.ensures
    c.as_slice-ordered.ensures.value (c.as_slice-list.ensures.value ∙ c.components.view_is) c.in_ok-push_bits.ensures) c.push_values.ensures

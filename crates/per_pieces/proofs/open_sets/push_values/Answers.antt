use Rattle.std.proofs.Common.{[], get_or}
use Rattle.per_core.specs.Writers.{just}
use Rattle.per_pieces.proofs.Placed.{remains_all}
use Rattle.per_pieces.specs.OpenSets.{value_writers}
use Rattle.per_pieces.proofs.Ordering.{all_of, next_at}
use Rattle.per_pieces.proofs.open_sets.push_values.Goals as goal

pub loop-field-init : goal.loop-field-init
loop-field-init g c = remains_all _ _

pub loop-field-preserved : goal.loop-field-preserved
loop-field-preserved g c =
    next_at c.args.fields.now (value_writers c.args.components.now) c.loop-field.field-index _ c.loop-field-test.true c.loop-field.invariant c.in_ok-push_value.ensures

pub returns : goal.returns
returns g c = all_of c.args.fields.now (λ f. get_or (value_writers c.args.components.now) f.index (just [])) c.loop-field.field-index c.loop-field-test.false c.loop-field.invariant

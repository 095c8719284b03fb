use Rattle.per_ways.proofs.FieldPlaces.{field_at_place}
use Rattle.per_ways.proofs.turns.set_comes_in_tag_order.Goals as goal

pub returns : goal.returns
returns c = field_at_place

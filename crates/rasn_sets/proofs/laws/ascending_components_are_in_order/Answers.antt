use Rattle.rasn_schema.specs.Schemas.{tags}
use Rattle.rasn_sets.proofs.InOrder.{ascending_parts, ascending_slots}
use Rattle.rasn_sets.proofs.laws.ascending_components_are_in_order.Goals as goal

pub returns : goal.returns
returns c = record { parts = ascending_parts; slots = λ ps rs h. ascending_slots (tags ps) rs h }

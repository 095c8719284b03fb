use Rattle.rasn_schema.specs.Schemas.{by_tag}
use Rattle.per_core.proofs.sets.normal_form_is_in_order.Goals as goal
use Rattle.rasn_schema.proofs.Canonised
use Rattle.per_core.proofs.SetReadings

pub returns-clause-parts : goal.returns-clause-parts
returns-clause-parts c = Canonised.normals_ordered

pub returns-clause-set : goal.returns-clause-set
returns-clause-set c = SetReadings.normal_record by_tag

pub returns-clause-sequence : goal.returns-clause-sequence
returns-clause-sequence c = SetReadings.normal_in_order

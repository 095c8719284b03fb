use Rattle.per_core.specs.ReadingFaults.{in_set}
use Rattle.per_decoding.proofs.Scoping.Sets.{fault_in_turn}
use Rattle.per_decoding.proofs.laws.fault_of_a_set_is_that_of_its_components_in_order.Goals as goal

pub returns : goal.returns
returns c = λ a k ps qs marker s. (λ h. fault_in_turn h, λ h. in_set h)

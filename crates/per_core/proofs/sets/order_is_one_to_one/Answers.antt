use Rattle.rasn_schema.specs.Schemas.{tags}
use Rattle.per_core.proofs.sets.order_is_one_to_one.Goals as goal
use Rattle.per_core.proofs.SetOrders

pub returns-clause-listed_again : goal.returns-clause-listed_again
returns-clause-listed_again c = λ ps. SetOrders.listed_again (tags ps)

pub returns-clause-ordered_again : goal.returns-clause-ordered_again
returns-clause-ordered_again c = λ ps. SetOrders.ordered_again (tags ps)

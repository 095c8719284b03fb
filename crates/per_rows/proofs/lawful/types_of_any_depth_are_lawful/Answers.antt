use Rattle.per_rows.proofs.lawful.types_of_any_depth_are_lawful.Goals as goal
use Rattle.per_rows.proofs.Unfoldings

pub returns-clause-one_kind : goal.returns-clause-one_kind
returns-clause-one_kind c = Unfoldings.boolean_is_lawful

pub returns-clause-recursive : goal.returns-clause-recursive
returns-clause-recursive c = Unfoldings.nest_is_lawful

pub returns-clause-deep_default : goal.returns-clause-deep_default
returns-clause-deep_default c = Unfoldings.deep_is_lawful
